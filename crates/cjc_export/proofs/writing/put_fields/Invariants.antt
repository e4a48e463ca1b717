use Rattle.std.proofs.Common.{◌≡◌, ◌++◌, drop}
use Rattle.std.specs.List.{flat_map}
use Rattle.cjc_export.specs.Written.{field_bytes}
use Rattle.cjc_export.proofs.writing.put_fields.Given as goal

abbrev pub invariant-loop-field : goal.invariant-loop-field
invariant-loop-field l = l.out ++ flat_map (field_bytes l.pool) (drop l.field-index l.fields) ≡ l.fn.out
    ++ flat_map (field_bytes l.pool) l.fields
