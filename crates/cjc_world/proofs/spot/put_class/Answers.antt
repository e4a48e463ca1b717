use Rattle.std.proofs.Common.{[], ◌∷◌, sym, subst}
use Rattle.cjc_world.specs.Classes.{declared, of_class_file}
use Rattle.cjc_world.specs.Working.Spots.{Grows}
use Rattle.cjc_world.proofs.Indexing.{got_some, got_none, grows_not, grows_class}
use Rattle.cjc_world.proofs.spot.put_class.Goals as goal

pub returns-in_ok-push : goal.returns-in_ok-push
returns-in_ok-push c = λ exports.
    subst (λ o. Grows c.args.classes.now exports c.args.spots.now.items c.push.new.self.items
    (of_class_file c.args.place o)) (got_some c.args.classes.now c.args.place c.in-Some.class.now
    c.in-Some.ensures.lookup.3.0 c.in-Some.ensures.lookup.1)
    (subst (λ new. Grows c.args.classes.now exports c.args.spots.now.items new (declared c.args.place
    c.in-Some.class.now ∷ [])) (sym c.in_ok-push.ensures.items)
    (grows_class c.args.classes.now exports c.args.spots.now.items c.args.place c.in-Some.class.now
    (got_some c.args.classes.now c.args.place c.in-Some.class.now c.in-Some.ensures.lookup.3.0
    c.in-Some.ensures.lookup.1) (c.is_counted.ensures c.if-not-is_counted.false)))

pub returns-in_default : goal.returns-in_default
returns-in_default c = λ exports.
    subst (λ o. Grows c.args.classes.now exports c.args.spots.now.items c.args.spots.now.items
    (of_class_file c.args.place o)) (got_none c.args.classes.now c.args.place c.in_default.ensures.lookup.3)
    (grows_not c.args.classes.now exports c.args.spots.now.items)
