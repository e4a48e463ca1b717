use Rattle.std.proofs.Common.{◌≡◌, drop}
use Rattle.cjc_check_index.specs.Imported.Working.Rows.{is_any_marked}
use Rattle.cjc_check_index.proofs.imported.rows.is_any_marked.Given as goal

abbrev pub invariant-loop-place : goal.invariant-loop-place
invariant-loop-place l = is_any_marked l.marks (drop l.place-index l.places) ≡ is_any_marked l.marks l.places
