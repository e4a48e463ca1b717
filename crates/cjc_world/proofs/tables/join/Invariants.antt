use Rattle.std.proofs.Common.{◌≡◌, drop}
use Rattle.cjc_world.specs.Places.{joined}
use Rattle.cjc_world.proofs.tables.join.Given as goal

abbrev pub invariant-loop-place : goal.invariant-loop-place
invariant-loop-place l = joined l.places.items (drop l.place-index l.more) ≡ joined l.initial.places.items l.more
