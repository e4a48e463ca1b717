use Rattle.std.proofs.Common.{◌≡◌, drop}
use Rattle.std.specs.List.{flat_map}
use Rattle.indexmap.specs.IndexSet.{insert_all}
use Rattle.cjc_export.specs.Constant.{same}
use Rattle.cjc_export.specs.Written.{method_needs}
use Rattle.cjc_export.proofs.needs.need_methods.Given as goal

abbrev pub invariant-loop-method : goal.invariant-loop-method
invariant-loop-method l = insert_all same l.pool (flat_map method_needs (drop l.method-index l.methods))
    ≡ insert_all same l.fn.pool (flat_map method_needs l.methods)
