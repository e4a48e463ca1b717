use Rattle.std.proofs.Common.{◌≡◌, ◌++◌, drop}
use Rattle.cjc_types.proofs.names.put_rest.Given as goal

abbrev pub invariant-loop-k : goal.invariant-loop-k
invariant-loop-k l = l.set.items ++ drop l.k l.names ≡ l.initial.set.items ++ drop l.from l.names
