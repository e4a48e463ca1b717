use Rattle.std.proofs.Common.{◌≡◌, ◌≤◌, ◌+◌, drop}
use Rattle.std.specs.Prelude.{◌&&◌, ◌==◌}
use Rattle.cjc_tokens.specs.Fields.{cells_of, group, is_instance}
use Rattle.cjc_tokens.proofs.fields.cells_within.Given as goal

abbrev pub invariant-loop-field : goal.invariant-loop-field
invariant-loop-field l = record {
  rest : l.sum + cells_of (λ g. is_instance g && (group g == l.place)) (drop l.field-index l.fields)
      ≡ cells_of (λ g. is_instance g && (group g == l.place)) l.fields;
  few : cells_of (λ g. is_instance g && (group g == l.place)) l.fields ≤ 255;
}
