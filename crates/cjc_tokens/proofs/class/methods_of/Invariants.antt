use Rattle.std.proofs.Common.{◌≡◌, take}
use Rattle.cjc_tokens.specs.Working.{methods_in}
use Rattle.cjc_tokens.proofs.class.methods_of.Given as goal

abbrev pub invariant-loop-slot : goal.invariant-loop-slot
invariant-loop-slot l = l.methods ≡ methods_in (take l.slot-index l.row)
