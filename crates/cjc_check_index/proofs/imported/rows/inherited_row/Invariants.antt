use Rattle.std.proofs.Common.{◌≡◌, take, map}
use Rattle.cjc_check_index.specs.Imported.Working.Rows.{is_any_marked}
use Rattle.cjc_check_index.proofs.imported.rows.inherited_row.Given as goal

abbrev pub invariant-loop-places : goal.invariant-loop-places
invariant-loop-places l = l.row ≡ map (is_any_marked l.marks) (take l.places-index l.above)
