use Rattle.std.proofs.Common.{◌≡◌, ◌++◌, drop}
use Rattle.cjc_code.specs.Named.{places}
use Rattle.cjc_code.proofs.named.places.Given as goal

abbrev pub invariant-loop-offset : goal.invariant-loop-offset
invariant-loop-offset l = l.places ++ places l.at (drop l.offset-index l.offsets) ≡ places l.at l.offsets
