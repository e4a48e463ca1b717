use Rattle.std.proofs.Common.{◌≡◌, ◌++◌, drop, map}
use Rattle.cjc_world.specs.Classes.{Class, all_classes}
use Rattle.cjc_world.specs.Working.Places.{at_places}
use Rattle.cjc_classes.specs.ClassInfo.Refs.{ref_of}
use Rattle.cjc_classes.proofs.class_info.entries.refs_at.Given as goal

abbrev pub invariant-loop-place : goal.invariant-loop-place
invariant-loop-place l = l.row ++ map (λ (c : Class). ref_of l.refs c.name) (at_places (all_classes l.world)
    (drop l.place-index l.places)) ≡ map (λ (c : Class). ref_of l.refs c.name) (at_places (all_classes l.world)
    l.places)
