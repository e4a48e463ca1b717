use Rattle.std.proofs.Common.{◌≡◌, ◌-◌, ◌++◌, drop, length}
use Rattle.cjc_narrow.specs.Types.Tables.{rows_of}
use Rattle.cjc_narrow.specs.Written.Rows.{has_rows}
use Rattle.cjc_methods.proofs.reached.rows_reached.Given as goal

abbrev pub invariant-loop-alloc : goal.invariant-loop-alloc
invariant-loop-alloc l = record {
  walk : l.walk ≡ record { at = length l.row; rows = rows_of l.fn.method l.fn.types };
  row : l.row ++ has_rows (drop (length l.row) (rows_of l.fn.method l.fn.types))
      ≡ has_rows (rows_of l.fn.method l.fn.types);
}

abbrev pub decreases-loop-alloc : goal.decreases-loop-alloc
decreases-loop-alloc l = length (rows_of l.fn.method l.fn.types) - length l.row
