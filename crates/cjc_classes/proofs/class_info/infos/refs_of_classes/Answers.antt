use Rattle.std.proofs.Common.{◌∙◌, ◌++◌, ◌∷◌, [], ap, sym, map}
use Rattle.cjc_world.specs.Classes.{Class, all_classes}
use Rattle.cjc_world.specs.Working.Known.{class_of}
use Rattle.cjc_components.specs.LowerCapRead.declared.tree.ClassRef.{ClassRef}
use Rattle.cjc_classes.specs.ClassInfo.Refs.{ref_of}
use Rattle.cjc_classes.proofs.ClassInfo.Places.{row-end, row-next}
use Rattle.cjc_classes.proofs.class_info.infos.refs_of_classes.Goals as goal

pub returns-in-None : goal.returns-in-None
returns-in-None c =
    let f : Class → ClassRef = λ d. ref_of c.args.refs.now d.name in
    row-end f (all_classes c.args.world.now) c.loop-place.place c.loop-place.row (map f (all_classes c.args.world.now))
    (sym c.in-None.ensures.at) c.loop-place.invariant

pub loop-place-preserved : goal.loop-place-preserved
loop-place-preserved c =
    let f : Class → ClassRef = λ d. ref_of c.args.refs.now d.name in
    row-next f (all_classes c.args.world.now) c.loop-place.place c.loop-place.row (map f (all_classes c.args.world.now))
    (class_of c.in-Some.class) c.push.new.self (sym c.in-Some.ensures.at)
    (c.in_ok-push-in-Some.ensures.ok ∙ ap (λ (r : ClassRef). c.loop-place.row ++ r ∷ []) (c.named.ensures
    ∙ ap (ref_of c.args.refs.now) c.name.ensures)) c.loop-place.invariant
