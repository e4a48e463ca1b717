use Rattle.std.proofs.Common.{◌≡◌, drop}
use Rattle.std.specs.List.{flat_map}
use Rattle.indexmap.specs.IndexSet.{insert_all}
use Rattle.cjc_export.specs.Constant.{same}
use Rattle.cjc_export.specs.Written.{class_tree_needs}
use Rattle.cjc_export.proofs.needs.need_class_trees.Given as goal

abbrev pub invariant-loop-class : goal.invariant-loop-class
invariant-loop-class l = insert_all same l.pool (flat_map class_tree_needs (drop l.class-index l.classes))
    ≡ insert_all same l.fn.pool (flat_map class_tree_needs l.classes)
