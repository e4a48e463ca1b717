use Rattle.std.proofs.Common.{◌≡◌, ◌++◌, drop}
use Rattle.std.specs.List.{flat_map}
use Rattle.cjc_export.specs.Written.{class_ref}
use Rattle.cjc_export.proofs.writing.put_class_refs.Given as goal

abbrev pub invariant-loop-name : goal.invariant-loop-name
invariant-loop-name l = l.out ++ flat_map (class_ref l.pool) (drop l.name-index l.names) ≡ l.fn.out
    ++ flat_map (class_ref l.pool) l.names
