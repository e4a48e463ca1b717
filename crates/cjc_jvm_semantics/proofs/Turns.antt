-- One turn, where it is known which frame is innermost.
use Rattle.std.proofs.Common.{◌≡◌, sym, ap, ◌∙◌, List, ◌∷◌}
use Rattle.std.specs.Prelude.{slice_get}
use Rattle.cjc_card_semantics.specs.Bytecode.Runs.{On}
use Rattle.cjc_jvm_semantics.specs.Linked.{Linked}
use Rattle.cjc_jvm_semantics.specs.Machine.{Frame, State, and_then, begins, step, spend, after_fetch, move}

-- a turn of a state with a frame is one instruction of that frame
pub at_frame : (l : Linked) (f : Frame) (outer : List Frame) (s : State) → s.frames ≡ f ∷ outer
    → move l s ≡ spend l (after_fetch l (let m = f.method in slice_get m.insns f.at) f outer s)
at_frame l f outer s frames =
    ap (λ fs. and_then l (begins l fs s.entries s) (λ t. step l t.frames t)) frames ∙ ap (λ fs. step l fs s) frames

-- the turn of a state in which an entry begins is that of the state in which it has begun
pub as_begun : (l : Linked) (f : Frame) (outer : List Frame) (s t : State) → begins l s.frames s.entries s ≡ On t
    → t.frames ≡ f ∷ outer → move l s ≡ move l t
as_begun l f outer s t begun frames =
    ap (λ x. and_then l x (λ u. step l u.frames u)) begun
    ∙ sym (ap (λ fs. and_then l (begins l fs t.entries t) (λ u. step l u.frames u)) frames)
