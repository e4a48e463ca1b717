use Rattle.std.proofs.Common.{◌≡◌, false, drop}
use Rattle.std.specs.List.{flat_map}
use Rattle.cjc_world.specs.Classes.{all_classes}
use Rattle.cjc_world.specs.Supertypes.{supertypes}
use Rattle.cjc_order.specs.Supers.Working.Walk.{AreDone, StandAbove, interfaces_from, with_all, size}
use Rattle.cjc_order.proofs.supers.upwards.+put_interfaces.Given as goal

abbrev pub decreases-put_interfaces : goal.decreases-put_interfaces
decreases-put_interfaces l = size (supertypes (all_classes l.world.now) l.names.now)

abbrev pub invariant-loop-name : goal.invariant-loop-name
invariant-loop-name l =
    (with_all l.seen (flat_map (interfaces_from (all_classes l.world) l.listed) (drop l.name-index l.names))
    ≡ with_all l.fn.seen (flat_map (interfaces_from (all_classes l.world) l.listed) l.names))
    × AreDone (interfaces_from (all_classes l.world) false) l.fn.came l.came l.seen
    × StandAbove (all_classes l.world) (interfaces_from (all_classes l.world) false) l.came l.seen l.names
