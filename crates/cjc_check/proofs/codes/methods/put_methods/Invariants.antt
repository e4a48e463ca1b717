use Rattle.std.proofs.Common.{◌≡◌, ◌++◌, take}
use Rattle.cjc_check.proofs.codes.methods.put_methods.Given as goal

abbrev pub invariant-loop-method : goal.invariant-loop-method
invariant-loop-method l = l.all ≡ l.initial.all ++ take l.method-index l.methods
