use Rattle.std.proofs.Common.{◌≡◌, ◌++◌, drop}
use Rattle.std.specs.List.{flat_map}
use Rattle.cjc_export.specs.Written.{class_bytes}
use Rattle.cjc_export.proofs.writing.put_classes.Given as goal

abbrev pub invariant-loop-class : goal.invariant-loop-class
invariant-loop-class l = l.out ++ flat_map (class_bytes l.pool) (drop l.class-index l.classes) ≡ l.fn.out
    ++ flat_map (class_bytes l.pool) l.classes
