use Rattle.std.proofs.Common.{◌≡◌, drop}
use Rattle.cjc_world.specs.Classes.{all_classes}
use Rattle.cjc_world.specs.Kin.{kin, stands}
use Rattle.cjc_world.proofs.roster.Roster.stands_in.Given as goal

abbrev pub invariant-loop-class : goal.invariant-loop-class
invariant-loop-class l = stands l.name (kin (all_classes l.self) (drop l.class-index l.classes)) ≡ stands l.name (kin (all_classes l.self) l.classes)
