use Rattle.std.proofs.Common.{◌≡◌, ◌++◌, length}
use Rattle.cjc_card_semantics.specs.Script.Sorts.{Ints}
use Rattle.cjc_card_semantics.specs.Machine.Statics.{elements}
use Rattle.cjc_card_frame.proofs.image.first.int_elements.Given as goal

abbrev pub invariant-elements : goal.invariant-elements
invariant-elements l = elements Ints l.bytes ≡ l.items.items ++ elements Ints l.rest

abbrev pub decreases-elements : goal.decreases-elements
decreases-elements l = length l.rest
