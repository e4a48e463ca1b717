use Rattle.std.proofs.Common.{◌≡◌, ◌++◌, drop, map}
use Rattle.cjc_layout.specs.Handlers.{handlers_of}
use Rattle.cjc_layout.specs.Working.{offset_at}
use Rattle.cjc_layout.proofs.handlers.handlers_of.Given as goal

abbrev pub invariant-loop-k : goal.invariant-loop-k
invariant-loop-k l = l.handlers ++ handlers_of (offset_at l.places l.end) (map (λ c. c.now) (drop l.k l.order))
    ≡ handlers_of (offset_at l.places l.end) (map (λ c. c.now) l.order)
