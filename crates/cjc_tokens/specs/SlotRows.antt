-- Rows of slots, and places that are noted for names and descriptors.
use Rattle.std.specs.Prelude.{◌≡◌, ℕ, List, map, Option, option_map}
use Rattle.std.specs.HashMap.{get_by}
use Rattle.cjc_tokens.specs.declared.indexed.Places.{Places}
use Rattle.cjc_tokens.specs.declared.slot.Slot.{Slot}
use Rattle.cjc_tokens.specs.Members.{Signature, same}
use Rattle.cjc_tokens.specs.Slots.{Slots, token}

-- the signature of a slot
abbrev pub signature_in : Slot → Signature
signature_in s = record { name = s.name.now; desc = s.desc.now }

-- the signatures of a row
abbrev pub signs : List (Option Slot) → Slots
signs row = map (option_map signature_in) row

-- the place that is noted for a signature
abbrev pub place_under : Places → Signature → Option ℕ
place_under p s = get_by (λ k. same s k) p.places

-- Of each signature the place of the first slot is noted.
abbrev pub ArePlaces : Places → List (Option Slot) → Type 0
ArePlaces p row = (s : Signature) → place_under p s ≡ token (signs row) s
