use Rattle.std.proofs.Common.{sym, subst, ◌∙◌}
use Rattle.cjc_world.specs.Working.Unchecked.{AreTables}
use Rattle.cjc_world.proofs.Circles.{none_is_acyclic}
use Rattle.cjc_world.proofs.world.World.untested.Goals as goal

pub invariant_of-result : goal.invariant_of-result
invariant_of-result c =
    subst (λ f. AreTables f c.into_parts-class_index.result.1) (sym c.into_parts-class_index.ensures.class_index)
    (c.into_parts-class_index.ensures.tables (none_is_acyclic _ (sym c.has_cycle.ensures ∙ c.if-has_cycle.false)))
