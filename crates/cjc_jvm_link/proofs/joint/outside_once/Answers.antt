use Rattle.cjc_jvm_link.proofs.Together.{kept_next}
use Rattle.cjc_jvm_link.proofs.joint.outside_once.Goals as goal

pub loop-tree-preserved : goal.loop-tree-preserved
loop-tree-preserved c =
    kept_next c.args.packages.now c.loop-tree.kept c.put_outside.new.kept _ c.in-Some.tree _ _
    c.in_ok-put_outside.ensures c.in-Some.ensures.steps.0 c.loop-tree.invariant
