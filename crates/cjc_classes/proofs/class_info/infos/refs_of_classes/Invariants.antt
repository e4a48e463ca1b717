use Rattle.std.proofs.Common.{◌≡◌, ◌++◌, drop, map}
use Rattle.cjc_world.specs.Classes.{Class, all_classes}
use Rattle.cjc_classes.specs.ClassInfo.Refs.{ref_of}
use Rattle.cjc_classes.proofs.class_info.infos.refs_of_classes.Given as goal

abbrev pub invariant-loop-place : goal.invariant-loop-place
invariant-loop-place l = l.row ++ map (λ (c : Class). ref_of l.refs c.name) (drop l.place (all_classes l.world))
    ≡ map (λ (c : Class). ref_of l.refs c.name) (all_classes l.world)
