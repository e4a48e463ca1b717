use Rattle.std.proofs.Common.{◌≡◌, ◌≤◌, ◌+◌, drop}
use Rattle.cjc_tokens.specs.Fields.{cells_of, is_instance}
use Rattle.cjc_tokens.proofs.fields.has_few_cells.Given as goal

abbrev pub invariant-loop-field : goal.invariant-loop-field
invariant-loop-field l = record {
  rest : l.sum + cells_of is_instance (drop l.field-index l.fields) ≡ cells_of is_instance l.fields;
  few : l.sum ≤ 255;
}
