use Rattle.std.proofs.Common.{◌≡◌, drop}
use Rattle.cjc_world.specs.Working.Asked.{got_all, is_had}
use Rattle.cjc_world.specs.Classes.{all_classes}
use Rattle.cjc_world.specs.Working.Known.{class_of}
use Rattle.cjc_world.proofs.class_index.ClassIndex.get_all.Given as goal

abbrev pub invariant-loop-place : goal.invariant-loop-place
invariant-loop-place l =
    got_all (all_classes l.self) (λ n d. is_had (all_classes l.self) l.rows (class_of l.class) l.line n d)
    (class_of l.class).name l.ids.items (drop l.place-index l.interfaces)
    ≡ got_all (all_classes l.self) (λ n d. is_had (all_classes l.self) l.rows (class_of l.class) l.line n d)
    (class_of l.class).name l.initial.ids.items l.interfaces
