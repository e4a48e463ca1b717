use Rattle.std.proofs.Common.{◌≡◌, ◌++◌, drop}
use Rattle.cjc_world.specs.Classes.{all_classes}
use Rattle.cjc_order.specs.Classes.Numbers.{own_numbers}
use Rattle.cjc_order.proofs.classes.listed.push_numbers.Given as goal

abbrev pub invariant-loop-name : goal.invariant-loop-name
invariant-loop-name l = l.numbers ++ own_numbers l.interfaces (all_classes l.world) (drop l.name-index l.names)
    ≡ l.initial.numbers ++ own_numbers l.interfaces (all_classes l.world) l.names
