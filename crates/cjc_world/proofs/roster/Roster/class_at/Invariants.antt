use Rattle.std.proofs.Common.{◌≡◌, drop}
use Rattle.cjc_world.specs.Classes.{all_classes, class_at}
use Rattle.cjc_world.specs.Working.Spots.{stood}
use Rattle.cjc_world.proofs.roster.Roster.class_at.Given as goal

abbrev pub invariant-loop-spot : goal.invariant-loop-spot
invariant-loop-spot l = class_at (stood l.self.classes l.self.exports (drop l.spot-index l.spot-items)) l.imported l.class ≡ class_at (all_classes l.self) l.imported l.class
