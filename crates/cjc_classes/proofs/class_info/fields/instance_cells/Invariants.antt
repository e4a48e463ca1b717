use Rattle.std.proofs.Common.{◌≡◌, take}
use Rattle.cjc_tokens.specs.Fields.{instance_cells}
use Rattle.cjc_classes.proofs.class_info.fields.instance_cells.Given as goal

abbrev pub invariant-loop-field : goal.invariant-loop-field
invariant-loop-field l = l.sum ≡ instance_cells (take l.field-index l.fields)
