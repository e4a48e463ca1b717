use Rattle.std.proofs.Common.{◌≡◌, length}
use Rattle.cjc_make_report.specs.Summary.{last_from, last_result}
use Rattle.cjc_make_report.proofs.summary.last_result.Given as goal

abbrev pub invariant-loop-left : goal.invariant-loop-left
invariant-loop-left l = last_from l.last l.left ≡ last_result l.notes

abbrev pub decreases-loop-left : goal.decreases-loop-left
decreases-loop-left l = length l.left
