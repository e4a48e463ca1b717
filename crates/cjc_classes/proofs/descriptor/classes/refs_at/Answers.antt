use Rattle.std.proofs.Common.{◌+◌, ◌++◌, map, drop, ap, ◌∙◌}
use Rattle.cjc_world.specs.Classes.{Class, all_classes}
use Rattle.cjc_world.specs.Working.Places.{at_places}
use Rattle.cjc_classes.specs.ClassInfo.Refs.{ref_of}
use Rattle.cjc_classes.proofs.DescriptorLaws.Rows.{places_end, places_next}
use Rattle.cjc_classes.proofs.descriptor.classes.refs_at.Goals as goal

pub loop-place-preserved : goal.loop-place-preserved
loop-place-preserved c =
    let ref = ref_of c.args.refs.now in
    let w = all_classes c.args.world.now in
    ap (λ r. r ++ map (λ (i : Class). ref i.name) (at_places w (drop (c.loop-place.place-index + 1) c.args.places.now)))
    c.in_ok-put_ref.ensures
    ∙ places_next ref w c.loop-place.row c.args.places.now c.loop-place.place-index _ _ c.loop-place-test.true
    c.loop-place.invariant

pub returns : goal.returns
returns c = places_end (ref_of c.args.refs.now) (all_classes c.args.world.now) c.loop-place.row c.args.places.now
    c.loop-place.place-index _ c.loop-place-test.false c.loop-place.invariant
