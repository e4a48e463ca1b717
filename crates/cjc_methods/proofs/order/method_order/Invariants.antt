use Rattle.std.proofs.Common.{◌≡◌, ◌++◌, false, drop}
use Rattle.cjc_world.specs.Classes.{all_classes}
use Rattle.cjc_world.specs.Order.{in_order, methods_in_turn}
use Rattle.cjc_methods.proofs.order.method_order.Given as goal

abbrev pub invariant-loop-number : goal.invariant-loop-number
invariant-loop-number l = l.out ++ methods_in_turn (all_classes l.world)
    (drop l.number-index (in_order (all_classes l.world) false)) ≡ methods_in_turn (all_classes l.world)
    (in_order (all_classes l.world) false)
