use Rattle.std.proofs.Common.{◌≡◌, take}
use Rattle.cjc_types.specs.Tables.{rows_of}
use Rattle.cjc_flow.specs.Working.Given.{elements_of}
use Rattle.cjc_flow.proofs.elements.elements.Given as goal

abbrev pub invariant-loop-place : goal.invariant-loop-place
invariant-loop-place l = record {
  walk : l.walk ≡ record { at = l.place; rows = rows_of l.fn.method l.types };
  done : l.elements ≡ take l.place (elements_of l.fn.method.insns (rows_of l.fn.method l.types));
}
