use Rattle.std.proofs.Common.{◌≡◌, drop}
use Rattle.cjc_types.specs.Tables.{rows_of}
use Rattle.cjc_flow.specs.Tests.Working.Search.{first_from}
use Rattle.cjc_flow.proofs.tests.passing.first_found.Given as goal

abbrev pub invariant-loop-place : goal.invariant-loop-place
invariant-loop-place l = record {
  frames : l.frames ≡ record { at = l.place; rows = rows_of l.fn.method l.fn.types };
  rows : l.rows ≡ record { at = l.place; rows = l.initial.rows.rows };
  first : first_from l.fn.tested l.fn.method l.place (drop l.place l.insns) (drop l.place
      (rows_of l.fn.method l.fn.types))
      (drop l.place l.initial.rows.rows) ≡ first_from l.fn.tested l.fn.method 0 l.insns (rows_of l.fn.method l.fn.types)
      l.initial.rows.rows;
}
