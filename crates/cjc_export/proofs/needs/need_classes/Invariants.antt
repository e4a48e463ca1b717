use Rattle.std.proofs.Common.{◌≡◌, drop}
use Rattle.std.specs.List.{flat_map}
use Rattle.indexmap.specs.IndexSet.{insert_all}
use Rattle.cjc_export.specs.Constant.{same}
use Rattle.cjc_export.specs.Written.{class_needs}
use Rattle.cjc_export.proofs.needs.need_classes.Given as goal

abbrev pub invariant-loop-name : goal.invariant-loop-name
invariant-loop-name l = insert_all same l.pool (flat_map class_needs (drop l.name-index l.names))
    ≡ insert_all same l.fn.pool (flat_map class_needs l.names)
