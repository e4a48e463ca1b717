use Rattle.std.proofs.Common.{◌≡◌, map, drop, ◌++◌}
use Rattle.cjc_world.specs.Classes.{all_classes}
use Rattle.cjc_world.specs.Kin.{kin, upwards}
use Rattle.cjc_world.specs.Known.{class_of}
use Rattle.cjc_tokens.proofs.listed.+put_upwards.Given as goal

abbrev pub decreases-put_upwards : goal.decreases-put_upwards
decreases-put_upwards l = l.steps

abbrev pub invariant-loop-above : goal.invariant-loop-above
invariant-loop-above l = map class_of l.classes.items ++ upwards (kin (all_classes l.world) (drop l.above-index l.above-items)) ≡ map class_of l.initial.classes.items ++ upwards (kin (all_classes l.world) l.above-items)
