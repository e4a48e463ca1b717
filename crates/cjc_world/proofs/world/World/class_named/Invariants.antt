use Rattle.std.proofs.Common.{◌≡◌, drop}
use Rattle.cjc_world.specs.Classes.{all_classes, class_named}
use Rattle.cjc_world.specs.Spots.{stood}
use Rattle.cjc_world.proofs.world.World.class_named.Given as goal

abbrev pub invariant-loop-spot : goal.invariant-loop-spot
invariant-loop-spot l = class_named (stood l.self.classes l.self.exports (drop l.spot-index l.spot-items)) l.name ≡ class_named (all_classes l.self) l.name
