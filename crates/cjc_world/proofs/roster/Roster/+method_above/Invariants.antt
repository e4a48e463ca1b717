use Rattle.std.proofs.Common.{◌≡◌, ◌-◌, drop}
use Rattle.cjc_world.specs.Classes.{all_classes}
use Rattle.cjc_world.specs.Kin.{grown, upwards}
use Rattle.cjc_world.specs.Lookup.{first, own_method}
use Rattle.cjc_world.proofs.roster.Roster.+method_above.Given as goal

abbrev pub decreases-method_above : goal.decreases-method_above
decreases-method_above l = l.steps

abbrev pub invariant-loop-sup : goal.invariant-loop-sup
invariant-loop-sup l = first (own_method l.selecting l.name l.desc) (upwards (grown (all_classes l.self) (l.steps - 1) (drop l.sup-index l.sup-items))) ≡ first (own_method l.selecting l.name l.desc) (upwards (grown (all_classes l.self) (l.steps - 1) l.sup-items))
