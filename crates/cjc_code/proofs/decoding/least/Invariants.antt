use Rattle.std.proofs.Common.{◌≡◌, drop}
use Rattle.cjc_code.specs.Decoded.{least_of}
use Rattle.cjc_code.proofs.decoding.least.Given as goal

abbrev pub invariant-loop-number : goal.invariant-loop-number
invariant-loop-number l = least_of l.least (drop l.number-index l.more) ≡ least_of l.initial.least l.more
