-- What an athrow is to a turn of both machines.
use Rattle.std.specs.Prelude.{◌≡◌, ℕ, List, ◌∷◌, Some, Bool, true, slice_get}
use Rattle.cjc_bytes.specs.declared.fault.MemberId.{MemberId}
use Rattle.cjc_script.specs.Sorts.{Shape, OfClass}
use Rattle.cjc_card_semantics.specs.Bytecode.Runs.{Move}
use Rattle.cjc_card_semantics.specs.Bytecode.Effects.{HeapObject, shape}
use Rattle.cjc_card_semantics.specs.Bytecode.Machine.{spent_by}
use Rattle.cjc_ncode.specs.ByLabel.{Named, by_label}
use Rattle.cjc_jvm_semantics.specs.Linked.{Linked}
use Rattle.cjc_jvm_semantics.specs.Effects.{NullPointer, exception_class}
use Rattle.cjc_jvm_semantics.specs.Machine.{Frame, State, spend}
use Rattle.cjc_narrow_proof.specs.Selection.Calls.{NFrame, NState, NTurn}
use Rattle.cjc_narrow_proof.specs.Selection.Throws.{nheap, Unwinds, Raises}
use Rattle.cjc_narrow_proof.specs.Selection.Turns.{with_spent}

-- Both machines spend one instruction, and the same object goes outwards alike, of a type that passes the test; or both
-- raise, on null.
pub data ThrowTurn (by : Linked) (l : Named) (within : Shape (List ℕ) → Bool) (f : Frame) (outer : List Frame)
    (s : State) (g : NFrame) (others : List NFrame) (t : NState) : Move State → NTurn → Type 0 where
  throws : (object : ℕ) (thing : HeapObject (List ℕ) MemberId) {m : Move State} {n : NTurn} → slice_get (nheap t) object
      ≡ Some thing → within (shape thing) ≡ true → Unwinds by l within object (shape thing) s (with_spent t) (f ∷ outer)
      (g ∷ others) m n
      → ThrowTurn by l within f outer s g others t (spend by m) (spent_by (by_label l) t.spent n)
  is_null : {m : Move State} {n : NTurn} → ((passing : Shape (List ℕ) → Bool)
      → passing (OfClass (exception_class NullPointer)) ≡ true → Raises by l passing (exception_class NullPointer) s
      (with_spent t) (f ∷ outer) (g ∷ others) m n)
      → ThrowTurn by l within f outer s g others t (spend by m) (spent_by (by_label l) t.spent n)
