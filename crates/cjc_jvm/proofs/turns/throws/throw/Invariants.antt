use Rattle.std.proofs.Common.{◌≡◌, ◌∷◌, length}
use Rattle.cjc_jvm_semantics.specs.Machine.{State, offset, after_throw}
use Rattle.cjc_jvm.proofs.turns.throws.throw.Given as goal

abbrev pub invariant-outwards : goal.invariant-outwards
invariant-outwards g l = record {
  notes : l.notes ≡ l.fn.notes;
  same : (s : State) → after_throw (g.L.LookUps.linked l.links) (offset l.fn.first) (l.fn.first ∷ l.fn.callers) l.object
      l.exception s ≡ after_throw (g.L.LookUps.linked l.links) (offset l.fn.first) l.callers l.object l.exception s;
}

abbrev pub decreases-outwards : goal.decreases-outwards
decreases-outwards g l = length l.callers
