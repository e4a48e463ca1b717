use Rattle.std.proofs.Common.{ℕ, List, map, ap, ◌∙◌}
use Rattle.cjc_world.specs.Classes.{Class, all_classes, declared}
use Rattle.cjc_world.specs.Working.Places.{at_places}
use Rattle.cjc_components.proofs.VTableMapPlaces.{interfaces-are}
use Rattle.cjc_classes.specs.ClassInfo.Refs.{ref_of}
use Rattle.cjc_classes.proofs.descriptor.classes.interfaces_of.Goals as goal

pub returns : goal.returns
returns c =
    let q = c.args.parts.now in
    let ref = ref_of q.refs.now in
    let w = all_classes q.world.now in
    c.in_ok-row.ensures
    ∙ ap (λ (ps : List ℕ). map (λ (i : Class). ref i.name) (at_places w ps)) c.items.ensures
    ∙ ap (λ (is : List Class). map (λ (i : Class). ref i.name) is) (c.in_ok-places.ensures
    ∙ interfaces-are w (declared c.args.number c.args.class.now))
