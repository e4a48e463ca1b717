use Rattle.std.proofs.Common.{◌≡◌, ◌++◌, take}
use Rattle.std.specs.List.{flat_map}
use Rattle.cjc_capwrite.specs.Descriptor.{field_bytes}
use Rattle.cjc_capwrite.proofs.descriptor.put_fields.Given as goal

abbrev pub invariant-loop-field : goal.invariant-loop-field
invariant-loop-field l = l.out ≡ l.fn.out ++ flat_map field_bytes (take l.field-index l.fields)
