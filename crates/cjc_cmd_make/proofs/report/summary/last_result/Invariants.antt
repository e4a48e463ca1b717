use Rattle.std.proofs.Common.{◌≡◌, length}
use Rattle.std.specs.Prelude.{filter_map}
use Rattle.cjc_cmd_make.specs.Report.Summary.{last_value, last_result, value_of}
use Rattle.cjc_cmd_make.proofs.report.summary.last_result.Given as goal

abbrev pub invariant-loop-left : goal.invariant-loop-left
invariant-loop-left l = last_value l.last (filter_map value_of l.left) ≡ last_result l.notes

abbrev pub decreases-loop-left : goal.decreases-loop-left
decreases-loop-left l = length l.left
