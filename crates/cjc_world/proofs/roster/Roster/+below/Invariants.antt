use Rattle.std.proofs.Common.{◌≡◌, ◌-◌, drop}
use Rattle.std.specs.List.{list_any}
use Rattle.std.specs.Str.{bytes_eq}
use Rattle.cjc_world.specs.Classes.{all_classes}
use Rattle.cjc_world.specs.Kin.{grown, upwards}
use Rattle.cjc_world.proofs.roster.Roster.+below.Given as goal

abbrev pub decreases-below : goal.decreases-below
decreases-below l = l.steps

abbrev pub invariant-loop-above : goal.invariant-loop-above
invariant-loop-above l = list_any (λ c. bytes_eq c.name l.sup) (upwards (grown (all_classes l.self) (l.steps - 1) (drop l.above-index l.above-items))) ≡ list_any (λ c. bytes_eq c.name l.sup) (upwards (grown (all_classes l.self) (l.steps - 1) l.above-items))
