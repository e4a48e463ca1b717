-- The tables made once for all look-ups by token, and that they are those of the group.
use Rattle.std.specs.Prelude.{◌≡◌, ◌<◌, ◌+◌, ◌^◌, ℕ, length, Option, Some, None}
use Rattle.cjc_card_semantics.specs.Machine.Classes.{info_count, infos}
use Rattle.cjc_card_semantics.specs.Machine.Loaded.{Loaded, Part}
use Rattle.cjc_card_link.specs.declared.tables.Tables.{Tables}

-- the group that tables are made over
abbrev pub loaded_of : Tables → Loaded
loaded_of t = record { parts = t.packages; trees = t.exported }

-- The classes are counted; 32 bits count the packages, and the classes with two more.
pub record AreKept (t : Tables) : Type 0 where
  pub few : length t.packages < 2 ^ 32
  pub counts : t.count ≡ info_count t.packages
  pub small : t.count + 2 < 2 ^ 32

-- how many classes and interfaces a package has
abbrev pub class_count : Option Part → ℕ
class_count None = 0
class_count (Some part) = length (infos part)
