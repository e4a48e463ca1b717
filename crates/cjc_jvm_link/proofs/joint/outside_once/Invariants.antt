use Rattle.std.proofs.Common.{◌≡◌}
use Rattle.std.specs.Vec.Iter.{into_iter_items}
use Rattle.cjc_jvm_link.specs.Joint.{kept_by}
use Rattle.cjc_jvm_link.proofs.joint.outside_once.Given as goal

abbrev pub invariant-loop-tree : goal.invariant-loop-tree
invariant-loop-tree l = kept_by l.packages l.kept (into_iter_items l.tree-iterator)
    ≡ kept_by l.packages l.initial.kept (into_iter_items l.initial.tree-iterator)
