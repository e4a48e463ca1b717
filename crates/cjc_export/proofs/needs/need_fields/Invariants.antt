use Rattle.std.proofs.Common.{◌≡◌, drop}
use Rattle.std.specs.List.{flat_map}
use Rattle.indexmap.specs.IndexSet.{insert_all}
use Rattle.cjc_export.specs.Constant.{same}
use Rattle.cjc_export.specs.Written.{field_needs}
use Rattle.cjc_export.proofs.needs.need_fields.Given as goal

abbrev pub invariant-loop-field : goal.invariant-loop-field
invariant-loop-field l = insert_all same l.pool (flat_map field_needs (drop l.field-index l.fields))
    ≡ insert_all same l.fn.pool (flat_map field_needs l.fields)
