use Rattle.std.proofs.Common.{◌≡◌, ◌+◌, ◌++◌, drop}
use Rattle.cjc_methods.specs.Working.Members.{written}
use Rattle.cjc_methods.proofs.order.put_written.Given as goal

abbrev pub invariant-loop-k : goal.invariant-loop-k
invariant-loop-k l = l.out ++ written l.class (l.first + l.k) (drop l.k l.methods) ≡ l.fn.out
    ++ written l.class l.first l.methods
