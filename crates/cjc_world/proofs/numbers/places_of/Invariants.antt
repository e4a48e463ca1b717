use Rattle.std.proofs.Common.{◌≡◌, ◌++◌, drop}
use Rattle.cjc_world.specs.Working.Numbers.{places_of}
use Rattle.cjc_world.proofs.numbers.places_of.Given as goal

abbrev pub invariant-loop-place : goal.invariant-loop-place
invariant-loop-place l = l.places.items ++ places_of l.imported l.place (drop l.place l.spots) ≡ places_of l.imported 0
    l.spots
