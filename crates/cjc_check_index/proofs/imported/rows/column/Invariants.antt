use Rattle.std.proofs.Common.{◌≡◌, take}
use Rattle.cjc_check_index.specs.Imported.Working.Rows.{column}
use Rattle.cjc_check_index.proofs.imported.rows.column.Given as goal

abbrev pub invariant-loop-table : goal.invariant-loop-table
invariant-loop-table l = l.row ≡ column (take l.table-index l.tables) l.token
