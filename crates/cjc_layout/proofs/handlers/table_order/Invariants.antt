use Rattle.std.proofs.Common.{◌≡◌, ◌≤◌, drop, map, length}
use Rattle.cjc_layout.specs.Handlers.{table_order}
use Rattle.cjc_layout.proofs.handlers.table_order.Given as goal

abbrev pub invariant-loop-k : goal.invariant-loop-k
invariant-loop-k l = (l.k ≤ length l.catches) × (map (λ c. c.now) l.order.items ≡ table_order (drop l.k l.catches))

abbrev pub decreases-loop-k : goal.decreases-loop-k
decreases-loop-k l = l.k
