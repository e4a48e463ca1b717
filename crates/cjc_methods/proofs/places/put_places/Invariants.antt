use Rattle.std.proofs.Common.{◌≡◌, ◌++◌, drop}
use Rattle.cjc_methods.specs.Working.Places.{behind_all, code_places}
use Rattle.cjc_methods.proofs.places.put_places.Given as goal

abbrev pub invariant-loop-method : goal.invariant-loop-method
invariant-loop-method l = record {
  places : l.out ++ code_places l.next (drop l.method-index l.methods) ≡ l.fn.out ++ code_places l.fn.next l.methods;
  behind : behind_all l.next (drop l.method-index l.methods) ≡ behind_all l.fn.next l.methods;
}
