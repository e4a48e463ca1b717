-- What stands above a class on the card, as a relation (Java Card Virtual Machine Specification 2.2.2, sections 5.7 and
-- 6.8).
use Rattle.std.specs.Prelude.{◌≡◌, true}
use Rattle.cjc_card_semantics.specs.Machine.Classes.{Class, is_in, supers}
use Rattle.cjc_card_semantics.specs.Machine.Loaded.{Loaded}

-- The second class is the first, or stands above it over what class infos and export files list.
pub data IsAtOrAbove (l : Loaded) : Class → Class → Type 0 where
  itself : {c : Class} → IsAtOrAbove l c c
  upwards : {c b d : Class} → is_in b (supers l c) ≡ true → IsAtOrAbove l b d → IsAtOrAbove l c d
