use Rattle.std.proofs.Common.{map}
use Rattle.cjc_world.specs.Classes.{all_classes}
use Rattle.cjc_world.specs.Working.Places.{at_places}
use Rattle.cjc_tokens.specs.Working.{slot_token}
use Rattle.cjc_vtable.specs.Tables.{interface_map}
use Rattle.cjc_vtable.proofs.MapPlaces.{maps-next, maps-end}
use Rattle.cjc_vtable.proofs.maps.maps_at.Goals as goal

pub loop-place-preserved : goal.loop-place-preserved
loop-place-preserved c =
    let w = all_classes c.args.world.now in
    let f = interface_map w (slot_token c.args.shown.now) in
    maps-next f w c.args.places.now c.loop-place.maps (map f (at_places w c.args.places.now)) c.loop-place.place-index
    c.put_map.new.maps c.loop-place-test.true c.in_ok-put_map.ensures c.loop-place.invariant

pub returns : goal.returns
returns c =
    let w = all_classes c.args.world.now in
    let f = interface_map w (slot_token c.args.shown.now) in
    maps-end f w c.args.places.now c.loop-place.maps (map f (at_places w c.args.places.now)) c.loop-place.place-index
    c.loop-place-test.false c.loop-place.invariant
