use Rattle.std.proofs.Common.{◌≡◌, length}
use Rattle.std.specs.List.{list_any}
use Rattle.cjc_first.specs.FirstForm.{is_iadd, ops_of}
use Rattle.cjc_first.proofs.form.has_iadd.Given as goal

abbrev pub invariant-loop-left : goal.invariant-loop-left
invariant-loop-left l = list_any is_iadd (ops_of l.left) ≡ list_any is_iadd (ops_of l.insns)

abbrev pub decreases-loop-left : goal.decreases-loop-left
decreases-loop-left l = length l.left
