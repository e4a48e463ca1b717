use Rattle.std.proofs.Common.{◌≡◌, List, Bool, take, map}
use Rattle.cjc_check_index.specs.Imported.Working.Rows.{is_any_marked}
use Rattle.cjc_check_index.proofs.imported.rows.inherited_rows.Given as goal

abbrev pub invariant-loop-marks : goal.invariant-loop-marks
invariant-loop-marks l = l.inherited ≡ map (λ (marks : List Bool). map (is_any_marked marks) l.above)
    (take l.marks-index l.rows)
