use Rattle.std.proofs.Common.{◌≡◌, ◌-◌, drop}
use Rattle.cjc_world.specs.Classes.{all_classes}
use Rattle.cjc_world.specs.Kin.{grown, stands}
use Rattle.cjc_world.proofs.roster.Roster.+stands.Given as goal

abbrev pub decreases-stands : goal.decreases-stands
decreases-stands l = l.steps

abbrev pub invariant-loop-sup : goal.invariant-loop-sup
invariant-loop-sup l = stands l.name (grown (all_classes l.self) (l.steps - 1) (drop l.sup-index l.sup-items)) ≡ stands l.name (grown (all_classes l.self) (l.steps - 1) l.sup-items)

abbrev pub invariant-loop-interface : goal.invariant-loop-interface
invariant-loop-interface l = stands l.name (grown (all_classes l.self) (l.steps - 1) (drop l.interface-index l.interface-items)) ≡ stands l.name (grown (all_classes l.self) (l.steps - 1) l.interface-items)
