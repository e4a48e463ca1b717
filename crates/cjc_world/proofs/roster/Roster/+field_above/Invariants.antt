use Rattle.std.proofs.Common.{◌≡◌, ◌-◌, drop}
use Rattle.cjc_world.specs.Classes.{all_classes}
use Rattle.cjc_world.specs.Kin.{grown}
use Rattle.cjc_world.specs.Lookup.{field_in, own_field}
use Rattle.cjc_world.proofs.roster.Roster.+field_above.Given as goal

abbrev pub decreases-field_above : goal.decreases-field_above
decreases-field_above l = l.steps

abbrev pub invariant-loop-interface : goal.invariant-loop-interface
invariant-loop-interface l = field_in (own_field l.name l.desc) (grown (all_classes l.self) (l.steps - 1) (drop l.interface-index l.interface-items)) ≡ field_in (own_field l.name l.desc) (grown (all_classes l.self) (l.steps - 1) l.interface-items)

abbrev pub invariant-loop-sup : goal.invariant-loop-sup
invariant-loop-sup l = field_in (own_field l.name l.desc) (grown (all_classes l.self) (l.steps - 1) (drop l.sup-index l.sup-items)) ≡ field_in (own_field l.name l.desc) (grown (all_classes l.self) (l.steps - 1) l.sup-items)
