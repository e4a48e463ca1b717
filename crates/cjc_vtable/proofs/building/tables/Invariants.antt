use Rattle.std.proofs.Common.{◌≡◌, map, take}
use Rattle.std.specs.Prelude.{Some, option_map}
use Rattle.cjc_world.specs.Classes.{all_classes}
use Rattle.cjc_order.specs.Classes.Numbers.{declared_at}
use Rattle.cjc_vtable.specs.Tables.{table_of}
use Rattle.cjc_vtable.proofs.building.tables.Given as goal

abbrev pub invariant-loop-number : goal.invariant-loop-number
invariant-loop-number l = map Some l.rows ≡ map (λ n. option_map (table_of (all_classes l.world))
    (declared_at l.world.classes n)) (take l.number-index l.number-items)
