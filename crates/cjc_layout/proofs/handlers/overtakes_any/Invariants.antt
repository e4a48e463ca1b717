use Rattle.std.proofs.Common.{◌≡◌, drop}
use Rattle.cjc_layout.specs.Refusals.{overtakes_any}
use Rattle.cjc_layout.proofs.handlers.overtakes_any.Given as goal

abbrev pub invariant-loop-k : goal.invariant-loop-k
invariant-loop-k l = overtakes_any l.c (drop l.k l.earlier) ≡ overtakes_any l.c l.earlier
