use Rattle.std.proofs.Common.{◌≡◌, drop, map}
use Rattle.cjc_ncode.specs.Lowering.Handlers.{meets_any}
use Rattle.cjc_layout.proofs.handlers.meets_any.Given as goal

abbrev pub invariant-loop-k : goal.invariant-loop-k
invariant-loop-k l = meets_any l.c (map (λ d. d.now) (drop l.k l.later)) ≡ meets_any l.c (map (λ d. d.now) l.later)
