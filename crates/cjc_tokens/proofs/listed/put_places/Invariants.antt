use Rattle.std.proofs.Common.{◌≡◌, ◌++◌, drop, map}
use Rattle.cjc_world.specs.Classes.{all_classes}
use Rattle.cjc_world.specs.Working.Known.{class_of}
use Rattle.cjc_world.specs.Working.Places.{at_places}
use Rattle.cjc_tokens.proofs.listed.put_places.Given as goal

abbrev pub invariant-loop-place : goal.invariant-loop-place
invariant-loop-place l = map class_of l.classes.items ++ at_places (all_classes l.world) (drop l.place-index l.places)
    ≡ map class_of l.initial.classes.items ++ at_places (all_classes l.world) l.places
