use Rattle.std.proofs.Common.{sym, ap, ◌∙◌}
use Rattle.std.specs.Prelude.{option_map}
use Rattle.cjc_world.specs.Classes.{all_classes, class_named}
use Rattle.cjc_world.specs.Known.{class_of}
use Rattle.cjc_world.proofs.Named.{named_here, named_on, named_over, named_end, named_counted}
use Rattle.cjc_world.proofs.world.World.class_named.Goals as goal
use Rattle.cjc_world.proofs.world.World.class_named.Goals.{in-Some+else-eq, in_default}

pub returns-then-eq-clause-named : goal.returns-then-eq-clause-named
unfolding all_classes
returns-then-eq-clause-named c =
    sym (named_here c.args.self.now.classes c.args.self.now.exports c.spots-spot-items.result.now c.loop-spot.spot-index _ c.loop-spot-test.true (class_of c.in-Some.class) c.args.name.now (sym c.at.ensures ∙ ap (option_map class_of) c.in-Some.is) cc)
    ∙ c.loop-spot.invariant

pub returns-then-eq-clause-counted : goal.returns-then-eq-clause-counted
unfolding all_classes
returns-then-eq-clause-counted c = named_counted (all_classes c.args.self.now) c.args.name.now (class_of c.in-Some.class) c.spots-spot-items.ensures.counted (sym (returns-then-eq-clause-named c))

pub loop-spot-init : goal.loop-spot-init
unfolding all_classes
loop-spot-init c = ap (λ cs. class_named cs c.args.name.now) c.spots-spot-items.ensures.all

pub loop-spot-preserved : goal.loop-spot-preserved
unfolding all_classes
loop-spot-preserved c = elim c.match-at.branch [
  | in-Some+else-eq w ↦
      sym (named_on c.args.self.now.classes c.args.self.now.exports c.spots-spot-items.result.now c.loop-spot.spot-index _ c.loop-spot-test.true (class_of w.in-Some.class) c.args.name.now (sym c.at.ensures ∙ ap (option_map class_of) w.in-Some.is) cc)
      ∙ c.loop-spot.invariant
  | in_default w ↦
      sym (named_over c.args.self.now.classes c.args.self.now.exports c.spots-spot-items.result.now c.loop-spot.spot-index _ c.loop-spot-test.true c.args.name.now (sym c.at.ensures ∙ ap (option_map class_of) w.in_default.is))
      ∙ c.loop-spot.invariant
]

pub returns-clause-named : goal.returns-clause-named
unfolding all_classes
returns-clause-named c = sym (named_end c.args.self.now.classes c.args.self.now.exports c.spots-spot-items.result.now c.loop-spot.spot-index c.args.name.now c.loop-spot-test.false) ∙ c.loop-spot.invariant
