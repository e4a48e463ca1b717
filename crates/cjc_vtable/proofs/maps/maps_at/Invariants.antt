use Rattle.std.proofs.Common.{◌≡◌, ◌++◌, drop, map}
use Rattle.cjc_world.specs.Classes.{all_classes}
use Rattle.cjc_world.specs.Working.Places.{at_places}
use Rattle.cjc_tokens.specs.Working.{slot_token}
use Rattle.cjc_vtable.specs.Tables.{interface_map}
use Rattle.cjc_vtable.proofs.maps.maps_at.Given as goal

abbrev pub invariant-loop-place : goal.invariant-loop-place
invariant-loop-place l = l.maps ++ map (interface_map (all_classes l.world) (slot_token l.shown))
    (at_places (all_classes l.world) (drop l.place-index l.places))
    ≡ map (interface_map (all_classes l.world) (slot_token l.shown)) (at_places (all_classes l.world) l.places)
