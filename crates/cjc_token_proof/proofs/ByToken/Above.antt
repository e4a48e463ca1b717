-- What is told as a kind of another stands at or below it, and what stands so is told.
use Rattle.std.proofs.Common.{◌≡◌, Bool, true}
use Rattle.cjc_card_semantics.specs.Machine.Classes.{Class, supers, is_kind_of}
use Rattle.cjc_card_semantics.specs.Machine.Loaded.{Loaded}
use Rattle.cjc_card_semantics.proofs.MachineLaws.Upwards.{Over, here, up, told_over, over_told}
use Rattle.cjc_token_proof.specs.ByToken.Above.{IsAtOrAbove, itself, upwards}

to_over : (l : Loaded) {c d : Class} → IsAtOrAbove l c d → Over (supers l) c d
to_over l itself = here
to_over l (upwards direct more) = up direct (to_over l more)

from_over : (l : Loaded) {c d : Class} → Over (supers l) c d → IsAtOrAbove l c d
from_over l here = itself
from_over l (up direct more) = upwards direct (from_over l more)

pub told_above : (l : Loaded) (c d : Class) → is_kind_of l c d ≡ true → IsAtOrAbove l c d
told_above l c d e = from_over l (told_over l c d e)

pub above_told : (l : Loaded) (c d : Class) → IsAtOrAbove l c d → is_kind_of l c d ≡ true
above_told l c d over = over_told l c d (to_over l over)
