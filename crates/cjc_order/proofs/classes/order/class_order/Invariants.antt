use Rattle.std.proofs.Common.{◌-◌, [], length, All, map}
use Rattle.cjc_world.specs.Classes.{all_classes}
use Rattle.cjc_world.specs.Order.{in_order}
use Rattle.cjc_order.specs.Classes.Numbers.{listed_numbers, IsOfKind}
use Rattle.cjc_order.specs.Classes.Queue.{IsBegun, IsQueue}
use Rattle.cjc_order.proofs.classes.order.class_order.Given as goal

abbrev pub invariant-loop : goal.invariant-loop
invariant-loop l = record {
  begun : IsBegun (all_classes l.world) l.interfaces l.world.classes l.order (length l.classes - l.counter)
      (in_order (all_classes l.world) l.interfaces);
  classes : All (IsOfKind l.world l.interfaces) l.order;
  queue : IsQueue l.interfaces l.classes (map (listed_numbers l.interfaces (all_classes l.world)) l.classes) l.order []
      l.counts.items l.ready;
}
