use Rattle.std.proofs.Common.{◌≡◌, take}
use Rattle.cjc_imported.specs.Working.Rows.{column}
use Rattle.cjc_imported.proofs.rows.column.Given as goal

abbrev pub invariant-loop-table : goal.invariant-loop-table
invariant-loop-table l = l.row ≡ column (take l.table-index l.tables) l.token
