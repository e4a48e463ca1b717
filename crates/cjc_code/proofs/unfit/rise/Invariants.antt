use Rattle.std.proofs.Common.{◌≡◌, length}
use Rattle.cjc_code.specs.Unfit.{rise}
use Rattle.cjc_code.proofs.unfit.rise.Given as goal

abbrev pub invariant-loop-left : goal.invariant-loop-left
invariant-loop-left l = rise l.left ≡ rise l.pairs

abbrev pub decreases-loop-left : goal.decreases-loop-left
decreases-loop-left l = length l.left
