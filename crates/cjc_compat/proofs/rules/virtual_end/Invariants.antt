use Rattle.std.proofs.Common.{◌≡◌, take}
use Rattle.cjc_compat.specs.Rules.{virtual_end}
use Rattle.cjc_compat.proofs.rules.virtual_end.Given as goal

abbrev pub invariant-loop-method : goal.invariant-loop-method
invariant-loop-method l = l.end ≡ virtual_end (take l.method-index l.methods)
