use Rattle.std.proofs.Common.{◌≡◌, ◌++◌, drop}
use Rattle.std.specs.List.{flat_map}
use Rattle.cjc_export.specs.Written.{method_bytes}
use Rattle.cjc_export.proofs.writing.put_methods.Given as goal

abbrev pub invariant-loop-method : goal.invariant-loop-method
invariant-loop-method l = l.out ++ flat_map (method_bytes l.pool) (drop l.method-index l.methods) ≡ l.fn.out
    ++ flat_map (method_bytes l.pool) l.methods
