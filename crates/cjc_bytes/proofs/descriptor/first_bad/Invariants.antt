use Rattle.std.proofs.Common.{◌≡◌, drop}
use Rattle.cjc_bytes.specs.declared.descriptor.ParseState.TheVariants as spots
use Rattle.cjc_bytes.specs.Spots.{bad_at}
use Rattle.cjc_bytes.proofs.DescriptorRead.{shifted}
use Rattle.cjc_bytes.proofs.descriptor.first_bad.Given as goal

abbrev pub invariant-loop-at : goal.invariant-loop-at
invariant-loop-at l = shifted l.at (bad_at l.spot (drop l.at l.bytes)) ≡ bad_at spots.Start l.bytes
