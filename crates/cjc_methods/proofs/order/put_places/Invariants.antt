use Rattle.std.proofs.Common.{◌≡◌, ◌+◌, ◌-◌, ◌++◌}
use Rattle.cjc_methods.specs.Working.Members.{places}
use Rattle.cjc_methods.proofs.order.put_places.Given as goal

abbrev pub invariant-loop-k : goal.invariant-loop-k
invariant-loop-k l = l.out ++ places l.class (l.first + l.k) (l.count - l.k) ≡ l.fn.out
    ++ places l.class l.first l.count
