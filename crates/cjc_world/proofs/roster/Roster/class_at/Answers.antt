use Rattle.std.proofs.Common.{sym, ap, ◌∙◌}
use Rattle.std.specs.Prelude.{option_map}
use Rattle.cjc_world.specs.Classes.{all_classes, class_at}
use Rattle.cjc_world.specs.Working.Known.{class_of}
use Rattle.cjc_world.proofs.Placed.{placed_here, placed_on, placed_over, placed_end, placed_counted}
use Rattle.cjc_world.proofs.roster.Roster.class_at.Goals as goal
use Rattle.cjc_world.proofs.roster.Roster.class_at.Goals.{in-Some+else-is_at, in_default}

pub returns-then-is_at-clause-at : goal.returns-then-is_at-clause-at
unfolding all_classes
returns-then-is_at-clause-at c =
    sym (placed_here c.args.self.now.classes c.args.self.now.exports c.spots-spot-items.result.now c.loop-spot.spot-index _ c.loop-spot-test.true c.args.imported c.args.class (class_of c.in-Some.known) (sym c.at.ensures ∙ ap (option_map class_of) c.in-Some.is) cc)
    ∙ c.loop-spot.invariant

pub returns-then-is_at-clause-counted : goal.returns-then-is_at-clause-counted
unfolding all_classes
returns-then-is_at-clause-counted c = placed_counted (all_classes c.args.self.now) c.args.imported c.args.class (class_of c.in-Some.known) c.spots-spot-items.ensures.counted (sym (returns-then-is_at-clause-at c))

pub loop-spot-init : goal.loop-spot-init
unfolding all_classes
loop-spot-init c = ap (λ cs. class_at cs c.args.imported c.args.class) c.spots-spot-items.ensures.all

pub loop-spot-preserved : goal.loop-spot-preserved
unfolding all_classes
loop-spot-preserved c = elim c.match-at.branch [
  | in-Some+else-is_at w ↦
      sym (placed_on c.args.self.now.classes c.args.self.now.exports c.spots-spot-items.result.now c.loop-spot.spot-index _ c.loop-spot-test.true c.args.imported c.args.class (class_of w.in-Some.known) (sym c.at.ensures ∙ ap (option_map class_of) w.in-Some.is) cc)
      ∙ c.loop-spot.invariant
  | in_default w ↦
      sym (placed_over c.args.self.now.classes c.args.self.now.exports c.spots-spot-items.result.now c.loop-spot.spot-index _ c.loop-spot-test.true c.args.imported c.args.class (sym c.at.ensures ∙ ap (option_map class_of) w.in_default.is))
      ∙ c.loop-spot.invariant
]

pub returns-clause-at : goal.returns-clause-at
unfolding all_classes
returns-clause-at c = sym (placed_end c.args.self.now.classes c.args.self.now.exports c.spots-spot-items.result.now c.loop-spot.spot-index c.args.imported c.args.class c.loop-spot-test.false) ∙ c.loop-spot.invariant
