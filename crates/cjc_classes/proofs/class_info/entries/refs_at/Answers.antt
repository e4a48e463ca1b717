use Rattle.std.proofs.Common.{ℕ, List, map, get_or}
use Rattle.std.specs.Prelude.{option_to_list, slice_get}
use Rattle.std.proofs.lemmas.List.{get_or_default}
use Rattle.cjc_components.specs.LowerCapRead.declared.tree.ClassRef.{ClassRef}
use Rattle.cjc_world.specs.Classes.{Class, all_classes}
use Rattle.cjc_world.specs.Working.Places.{at_places}
use Rattle.cjc_classes.specs.ClassInfo.Refs.{ref_of}
use Rattle.cjc_classes.proofs.ClassInfo.Places.{pieces-end, pieces-next}
use Rattle.cjc_classes.proofs.ClassInfo.Trees.{places-more, places-none}
use Rattle.cjc_classes.proofs.class_info.entries.refs_at.Goals as goal

pub loop-place-preserved : goal.loop-place-preserved
loop-place-preserved c =
    let w = all_classes c.args.world.now in
    let f : Class → ClassRef = λ d. ref_of c.args.refs.now d.name in
    let k = c.loop-place.place-index in
    let places = c.args.places.now in
    let x = get_or places k 0 in
    pieces-next (λ (ps : List ℕ). map f (at_places w ps)) (λ (p : ℕ). map f (option_to_list (slice_get w p)))
    (places-none f w) (places-more f w) places k x c.loop-place.row c.put_ref.new.row (map f (at_places w places))
    c.loop-place-test.true (get_or_default places k 0 x c.loop-place-test.true) c.in_ok-put_ref.ensures
    c.loop-place.invariant

pub returns : goal.returns
returns c =
    let w = all_classes c.args.world.now in
    let f : Class → ClassRef = λ d. ref_of c.args.refs.now d.name in
    pieces-end (λ (ps : List ℕ). map f (at_places w ps)) (λ (p : ℕ). map f (option_to_list (slice_get w p)))
    (places-none f w) (places-more f w) c.args.places.now c.loop-place.place-index c.loop-place.row
    (map f (at_places w c.args.places.now)) c.loop-place-test.false c.loop-place.invariant
