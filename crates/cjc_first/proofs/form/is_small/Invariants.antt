use Rattle.std.proofs.Common.{◌≤◌, length}
use Rattle.std.specs.Prelude.{◌↔◌, sum_by}
use Rattle.cjc_first.specs.Selected.{widest}
use Rattle.cjc_first.specs.FirstForm.{ops_of}
use Rattle.cjc_first.proofs.form.is_small.Given as goal

abbrev pub invariant-loop-left : goal.invariant-loop-left
invariant-loop-left l = (sum_by widest (ops_of l.left) ≤ l.room) ↔ (sum_by widest (ops_of l.insns) ≤ 32767)

abbrev pub decreases-loop-left : goal.decreases-loop-left
decreases-loop-left l = length l.left
