use Rattle.std.proofs.Common.{◌≡◌, ◌-◌}
use Rattle.cjc_world.specs.Added.{own_methods}
use Rattle.cjc_world.specs.Working.Asked.{asked_from, got, is_had}
use Rattle.cjc_world.specs.Classes.{all_classes}
use Rattle.cjc_world.specs.Working.Known.{class_of}
use Rattle.cjc_world.proofs.class_index.ClassIndex.get_methods.Given as goal

abbrev pub invariant-loop-position : goal.invariant-loop-position
invariant-loop-position l =
    got (λ n d. is_had (all_classes l.self) l.rows (class_of l.class) l.line n d) (class_of l.class).name l.ids.items
    (asked_from (class_of l.interface) l.position (l.position-end - l.position))
    ≡ got (λ n d. is_had (all_classes l.self) l.rows (class_of l.class) l.line n d) (class_of l.class).name
    l.initial.ids.items (own_methods (class_of l.interface))
