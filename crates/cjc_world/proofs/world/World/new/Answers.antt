use Rattle.std.proofs.Common.{sym, subst}
use Rattle.cjc_world.specs.Working.Unchecked.{AreTables}
use Rattle.cjc_world.proofs.Unbroken.{unbroken_is_acyclic}
use Rattle.cjc_world.proofs.world.World.new.Goals as goal

pub invariant_of-result : goal.invariant_of-result
invariant_of-result c =
    subst (λ f. AreTables f c.into_parts-class_index.result.1) (sym c.into_parts-class_index.ensures.class_index)
    (c.into_parts-class_index.ensures.tables (unbroken_is_acyclic c.args.list.now c.in_ok-unchecked.unchecked
    c.in_default.ensures.none))
