use Rattle.std.proofs.Common.{◌≡◌, ◌-◌, drop, true, false}
use Rattle.cjc_world.specs.Classes.{all_classes}
use Rattle.cjc_world.specs.Kin.{grown}
use Rattle.cjc_world.specs.Interfaces.{known, gathered}
use Rattle.cjc_world.specs.Lookup.{first, own_method}
use Rattle.cjc_world.proofs.roster.Roster.+interface_method.Given as goal

abbrev pub decreases-interface_method : goal.decreases-interface_method
decreases-interface_method l = l.steps

abbrev pub invariant-loop-sup : goal.invariant-loop-sup
invariant-loop-sup l = first (own_method false l.name l.desc) (known (gathered false (grown (all_classes l.self) (l.steps - 1) (drop l.sup-index l.sup-items)))) ≡ first (own_method false l.name l.desc) (known (gathered false (grown (all_classes l.self) (l.steps - 1) l.sup-items)))

abbrev pub invariant-loop-interface : goal.invariant-loop-interface
invariant-loop-interface l = first (own_method false l.name l.desc) (known (gathered true (grown (all_classes l.self) (l.steps - 1) (drop l.interface-index l.interface-items)))) ≡ first (own_method false l.name l.desc) (known (gathered true (grown (all_classes l.self) (l.steps - 1) l.interface-items)))
