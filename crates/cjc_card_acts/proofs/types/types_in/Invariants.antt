use Rattle.std.proofs.Common.{◌≡◌, length, map}
use Rattle.cjc_card_acts.specs.CardTypes.{types_in}
use Rattle.cjc_card_acts.specs.Told.{type_told}
use Rattle.cjc_card_acts.proofs.Nibbles.{followed}
use Rattle.cjc_card_acts.proofs.types.types_in.Given as goal

abbrev pub invariant-loop-left : goal.invariant-loop-left
invariant-loop-left l = followed (map type_told l.types) (types_in l.left) ≡ types_in l.nibbles

abbrev pub decreases-loop-left : goal.decreases-loop-left
decreases-loop-left l = length l.left
