use Rattle.std.proofs.Common.{◌≡◌, ◌∙◌, List, ℕ, ap, map, subst}
use Rattle.std.specs.Prelude.{IfOk}
use Rattle.cjc_components.specs.LowerCapRead.declared.tree.ClassRef.{ClassRef}
use Rattle.cjc_world.specs.Classes.{Class, all_classes}
use Rattle.cjc_world.specs.Working.Known.{class_of}
use Rattle.cjc_world.specs.Working.Places.{at_places}
use Rattle.cjc_components.proofs.VTableMapPlaces.{interfaces-are}
use Rattle.cjc_classes.specs.ClassInfo.Refs.{ref_of}
use Rattle.cjc_classes.proofs.class_info.entries.superinterfaces.Goals as goal

pub returns : goal.returns
returns c =
    let w = all_classes c.args.world.now in
    let f : Class → ClassRef = λ s. ref_of c.args.refs.now s.name in
    subst (λ (q : List ClassRef). IfOk c.refs_at.result (λ row. row ≡ q))
    (ap (λ (ps : List ℕ). map f (at_places w ps)) c.items.ensures ∙ ap (map f) (c.in_ok-places.ensures
    ∙ interfaces-are w (class_of c.args.class)))
    c.refs_at.ensures
