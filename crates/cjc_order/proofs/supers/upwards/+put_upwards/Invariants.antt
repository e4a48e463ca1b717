use Rattle.std.proofs.Common.{◌≡◌, drop}
use Rattle.std.specs.List.{flat_map}
use Rattle.cjc_world.specs.Classes.{all_classes}
use Rattle.cjc_world.specs.Supertypes.{supertypes}
use Rattle.cjc_order.specs.Supers.Working.Walk.{AreDone, StandAbove, upwards_from, with_all, size}
use Rattle.cjc_order.proofs.supers.upwards.+put_upwards.Given as goal

abbrev pub decreases-put_upwards : goal.decreases-put_upwards
decreases-put_upwards l = size (supertypes (all_classes l.world.now) l.names.now)

abbrev pub invariant-loop-name : goal.invariant-loop-name
invariant-loop-name l =
    (with_all l.seen (flat_map (upwards_from (all_classes l.world)) (drop l.name-index l.names))
    ≡ with_all l.fn.seen (flat_map (upwards_from (all_classes l.world)) l.names))
    × AreDone (upwards_from (all_classes l.world)) l.fn.seen l.seen l.seen
    × StandAbove (all_classes l.world) (upwards_from (all_classes l.world)) l.seen l.seen l.names
