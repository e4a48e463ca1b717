use Rattle.std.proofs.Common.{◌≡◌, ◌+◌, drop, map}
use Rattle.cjc_layout.specs.Working.{place_for}
use Rattle.cjc_layout.proofs.handlers.place_for.Given as goal

abbrev pub invariant-loop-k : goal.invariant-loop-k
invariant-loop-k l = l.k + place_for l.target (map (λ d. d.now) (drop l.k l.order))
    ≡ place_for l.target (map (λ d. d.now) l.order)
