use Rattle.std.proofs.Common.{◌≡◌, ◌+◌, length, map}
use Rattle.cjc_card_acts.specs.CardTypes.{widths}
use Rattle.cjc_card_acts.specs.Told.{type_told}
use Rattle.cjc_card_acts.proofs.types.widths.Given as goal

abbrev pub invariant-loop-left : goal.invariant-loop-left
invariant-loop-left l = l.count + widths (map type_told l.left) ≡ widths (map type_told l.types)

abbrev pub decreases-loop-left : goal.decreases-loop-left
decreases-loop-left l = length l.left
