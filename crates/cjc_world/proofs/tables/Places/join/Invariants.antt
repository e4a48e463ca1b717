use Rattle.std.proofs.Common.{◌≡◌, drop}
use Rattle.cjc_world.specs.Working.Places.{joined}
use Rattle.cjc_world.proofs.tables.Places.join.Given as goal

abbrev pub invariant-loop-place : goal.invariant-loop-place
invariant-loop-place l = joined l.self (drop l.place-index l.more) ≡ joined l.initial.self l.more
