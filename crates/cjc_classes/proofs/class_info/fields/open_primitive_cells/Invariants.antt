use Rattle.std.proofs.Common.{◌≡◌, take}
use Rattle.std.specs.Prelude.{◌&&◌, ◌==◌}
use Rattle.cjc_tokens.specs.Fields.{cells_of, group, is_instance}
use Rattle.cjc_classes.proofs.class_info.fields.open_primitive_cells.Given as goal

abbrev pub invariant-loop-field : goal.invariant-loop-field
invariant-loop-field l = l.sum ≡ cells_of (λ f. is_instance f && (group f == 0)) (take l.field-index l.fields)
