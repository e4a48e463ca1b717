use Rattle.std.proofs.Common.{◌≡◌, length}
use Rattle.cjc_first.specs.FirstForm.{is_rest, ops_of}
use Rattle.cjc_first.proofs.form.is_rest.Given as goal

abbrev pub invariant-loop-left : goal.invariant-loop-left
invariant-loop-left l = is_rest l.params (ops_of l.left) ≡ is_rest l.params (ops_of l.insns)

abbrev pub decreases-loop-left : goal.decreases-loop-left
decreases-loop-left l = length l.left
