use Rattle.std.proofs.Common.{◌≡◌, drop}
use Rattle.cjc_flow.specs.LowerTypes.Tables.{rows_of}
use Rattle.cjc_int_mode.specs.Working.Pairs.{pairs_from}
use Rattle.cjc_int_mode.proofs.space.pairs_where_usable.Given as goal

abbrev pub invariant-loop-place : goal.invariant-loop-place
invariant-loop-place l = record {
  walk : l.walk ≡ record { at = l.place; rows = rows_of l.fn.method l.fn.types };
  pairs : pairs_from l.pairs (drop l.place l.insns) (drop l.place (rows_of l.fn.method l.fn.types))
      ≡ pairs_from 0 l.insns (rows_of l.fn.method l.fn.types);
}
