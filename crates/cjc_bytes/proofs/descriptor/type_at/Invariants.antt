use Rattle.std.proofs.Common.{◌≡◌, drop}
use Rattle.cjc_bytes.specs.Spots.{types}
use Rattle.cjc_bytes.proofs.descriptor.type_at.Given as goal

abbrev pub invariant-loop : goal.invariant-loop
invariant-loop l = drop l.counter (types l.bytes) ≡ types l.rest
