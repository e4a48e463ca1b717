use Rattle.std.proofs.Common.{◌≡◌, ◌∷◌, length}
use Rattle.cjc_bytecode.specs.Machine.{caught}
use Rattle.cjc_card.specs.ByToken.{by_token}
use Rattle.cjc_card_heap.specs.Objects.{shape_of}
use Rattle.cjc_card_acts.specs.States.{StateByToken}
use Rattle.cjc_card_turns.proofs.throws.throw.Given as goal

abbrev pub invariant-outwards : goal.invariant-outwards
invariant-outwards g l = record {
  notes : l.notes ≡ l.fn.notes;
  same : (s : StateByToken) → caught (by_token (g.L.LookUps.loaded l.links)) l.fn.first.at (l.fn.first ∷ l.fn.callers) l.object (shape_of l.kind) s ≡ caught (by_token (g.L.LookUps.loaded l.links)) l.fn.first.at l.callers l.object (shape_of l.kind) s;
}

abbrev pub decreases-outwards : goal.decreases-outwards
decreases-outwards g l = length l.callers
