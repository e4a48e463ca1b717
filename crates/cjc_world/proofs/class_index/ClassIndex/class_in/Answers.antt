use Rattle.std.proofs.Common.{length, sym, ap, subst, ◌≤◌, ◌∙◌}
use Rattle.std.specs.Prelude.{option_map, slice_get}
use Rattle.cjc_world.specs.Classes.{all_classes}
use Rattle.cjc_world.specs.Working.Known.{class_of}
use Rattle.cjc_world.proofs.Indexing.{got_some, got_none}
use Rattle.cjc_world.proofs.ByPlace.{placed-counted}
use Rattle.cjc_world.proofs.Noted.{spot-class}
use Rattle.cjc_world.proofs.class_index.ClassIndex.class_in.Goals as goal

pub returns-in_err-spot-clause-at : goal.returns-in_err-spot-clause-at
unfolding all_classes
returns-in_err-spot-clause-at c =
    ap (option_map class_of) c.from_residual.ensures
    ∙ got_none (all_classes c.args.self.now) c.args.place (subst (λ n. n ≤ c.args.place) c.spots.ensures.count
    c.in_err-spot.ensures.lookup.3)

pub returns-clause-at : goal.returns-clause-at
unfolding all_classes
returns-clause-at c =
    let files = c.args.self.now in
    let ss = c.spots.result.now in
    c.at.ensures
    ∙ spot-class files.classes files.exports ss (c.spots.ensures.count ∙ ap length (sym c.spots.ensures.all))
    c.args.place c.in_ok-spot.spot.now
    (sym (got_some ss c.args.place c.in_ok-spot.spot.now c.in_ok-spot.ensures.lookup.3.0 c.in_ok-spot.ensures.lookup.1))
    ∙ ap (λ w. slice_get w c.args.place) c.spots.ensures.all

pub returns-clause-counted : goal.returns-clause-counted
unfolding all_classes
returns-clause-counted c = placed-counted (all_classes c.args.self.now) c.spots.ensures.counted c.args.place c.at.result
    (returns-clause-at c)
