use Rattle.std.proofs.Common.{◌≡◌, ◌++◌, drop}
use Rattle.cjc_check_index.specs.Lookup.MethodStarts.{offsets_of}
use Rattle.cjc_check_index.proofs.lookup.methods.put_methods.Given as goal

abbrev pub invariant-loop-method : goal.invariant-loop-method
invariant-loop-method l = l.offsets ++ offsets_of l.only_static (drop l.method-index l.methods) ≡ l.fn.offsets
    ++ offsets_of l.only_static l.methods
