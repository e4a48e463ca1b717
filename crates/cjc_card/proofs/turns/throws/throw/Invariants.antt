use Rattle.std.proofs.Common.{◌≡◌, ◌∷◌, length}
use Rattle.cjc_card_semantics.specs.Bytecode.Machine.{caught}
use Rattle.cjc_card_semantics.specs.Machine.ByToken.{by_token}
use Rattle.cjc_card_frame.specs.Objects.{shape_of}
use Rattle.cjc_card.specs.Acts.States.{StateByToken}
use Rattle.cjc_card.proofs.turns.throws.throw.Given as goal

abbrev pub invariant-outwards : goal.invariant-outwards
invariant-outwards g l = record {
  notes : l.notes ≡ l.fn.notes;
  same : (s : StateByToken) → caught (by_token (g.L.LookUps.loaded l.links)) l.fn.first.at (l.fn.first ∷ l.fn.callers)
      l.object (shape_of l.kind) s ≡ caught (by_token (g.L.LookUps.loaded l.links)) l.fn.first.at l.callers l.object
      (shape_of l.kind) s;
}

abbrev pub decreases-outwards : goal.decreases-outwards
decreases-outwards g l = length l.callers
