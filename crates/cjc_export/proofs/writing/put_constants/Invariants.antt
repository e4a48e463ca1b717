use Rattle.std.proofs.Common.{◌≡◌, ◌++◌, drop}
use Rattle.std.specs.List.{flat_map}
use Rattle.cjc_export.specs.Written.{constant_bytes}
use Rattle.cjc_export.proofs.writing.put_constants.Given as goal

abbrev pub invariant-loop-i : goal.invariant-loop-i
invariant-loop-i l = l.out ++ flat_map (constant_bytes l.tree l.pool) (drop l.i l.pool) ≡ l.fn.out
    ++ flat_map (constant_bytes l.tree l.pool) l.pool
