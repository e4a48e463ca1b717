use Rattle.std.proofs.Common.{◌≡◌, ◌++◌, drop}
use Rattle.std.specs.Prelude.{map}
use Rattle.cjc_world.specs.Classes.{all_classes}
use Rattle.cjc_order.specs.Classes.Numbers.{listed_numbers}
use Rattle.cjc_order.proofs.classes.listed.numbers_of_all.Given as goal

abbrev pub invariant-loop-class : goal.invariant-loop-class
invariant-loop-class l = l.rows ++ map (listed_numbers l.interfaces (all_classes l.world))
    (drop l.class-index l.classes) ≡ map (listed_numbers l.interfaces (all_classes l.world)) l.classes
