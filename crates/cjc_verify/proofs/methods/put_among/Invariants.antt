use Rattle.std.proofs.Common.{◌≡◌, ◌++◌, length}
use Rattle.cjc_verify.specs.Working.Methods.{known_among}
use Rattle.cjc_verify.proofs.methods.put_among.Given as goal

abbrev pub invariant-loop-left : goal.invariant-loop-left
invariant-loop-left l =
    l.row ++ known_among l.world l.left l.described ≡ l.initial.row ++ known_among l.world l.order l.classes

abbrev pub decreases-loop-left : goal.decreases-loop-left
decreases-loop-left l = length l.left
