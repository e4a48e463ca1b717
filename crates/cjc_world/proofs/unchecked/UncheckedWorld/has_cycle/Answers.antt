use Rattle.std.proofs.Common.{◌<◌, length, sym, subst, ◌∙◌}
use Rattle.cjc_world.specs.Classes.{all_classes}
use Rattle.cjc_world.specs.Rules.{has_cycle}
use Rattle.cjc_world.proofs.Circles.{circle_behind}
use Rattle.cjc_world.proofs.unchecked.UncheckedWorld.has_cycle.Goals as goal

pub loop-place-preserved : goal.loop-place-preserved
loop-place-preserved c =
    let w = all_classes c.args.self.now in
    circle_behind w c.loop-place.place (has_cycle w)
    (subst (λ f. c.loop-place.place < length (all_classes f)) c.self.view_is
    (subst (λ n. c.loop-place.place < n) c.count-place-end.ensures c.loop-place-test.true))
    (sym c.if-is_own_super_at.false ∙ c.is_own_super_at.ensures) c.loop-place.invariant
