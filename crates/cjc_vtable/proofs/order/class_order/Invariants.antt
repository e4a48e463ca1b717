use Rattle.std.proofs.Common.{◌≡◌, ◌-◌, length, All, false}
use Rattle.cjc_world.specs.Classes.{all_classes}
use Rattle.cjc_world.specs.Order.{in_order}
use Rattle.cjc_vtable.specs.Working.Standing.{IsBegun, IsClass, IsMarked}
use Rattle.cjc_vtable.proofs.order.class_order.Given as goal

abbrev pub invariant-loop : goal.invariant-loop
invariant-loop l = record {
  begun : IsBegun (all_classes l.world) l.world.classes l.order.items (length l.classes - l.counter) (in_order (all_classes l.world) false);
  classes : All (IsClass l.world) l.order.items;
  marked : IsMarked l.order.items l.marks.items;
  long : length l.marks.items ≡ length l.classes;
}
