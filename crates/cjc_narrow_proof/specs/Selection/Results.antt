-- When a result goes to frames that wait behind the same call, and which results of an entry are noted alike.
use Rattle.std.specs.Prelude.{ℕ, ◌+◌, List, [], ◌∷◌, ◌++◌, Option, Bool}
use Rattle.cjc_range.specs.Span.{Span, Within, short_range}
use Rattle.cjc_script.specs.declared.value.Value.{Value}
use Rattle.cjc_script.specs.declared.report.Note.TheVariants.{Result}
use Rattle.cjc_script.specs.Sorts.{Shape}
use Rattle.cjc_card_semantics.specs.Bytecode.Runs.{Move, On}
use Rattle.cjc_card_semantics.specs.Bytecode.Machine.{Next}
use Rattle.cjc_ncode.specs.ByLabel.{Named}
use Rattle.cjc_jvm_semantics.specs.Machine.{Frame, State, with_frames, with_note}
use Rattle.cjc_narrow_proof.specs.Selection.Relation.{Kind, Range, Refers, Stacks}
use Rattle.cjc_narrow_proof.specs.Selection.Calls.{NFrame, NState, NTurn}
use Rattle.cjc_narrow_proof.specs.Selection.Throws.{nheap}

-- Both machines go on behind the call of the innermost frames, with stacks of these kinds.
pub data Resumes (l : Named) (ks : List Kind) (s : State) (t : NState) (f : Frame) (outer : List Frame) (g : NFrame)
    (others : List NFrame) : Move State → NTurn → Type 0 where
  resumes : {vs ws : List Value} → Stacks (nheap t) ks vs ws
      → Resumes l ks s t f outer g others (On (with_frames (record f { at = f.at + 1; stack = vs } ∷ outer) s))
      (Next (record t { frames = record g { at = g.next; stack = ws } ∷ others }))

-- Both machines note the same result and have no frame left.
pub data NotesResult (value : Option Value) (s : State) (t : NState) : Move State → NTurn → Type 0 where
  notes : NotesResult value s t (On (with_frames [] (with_note (Result value) s))) (Next (record t {
    frames = [];
    notes = t.notes ++ Result value ∷ [];
  }))

-- cells that are the same on both stacks: references, and numbers of 16 bits
pub data AreShort : List Kind → Type 0 where
  no_cell : AreShort []
  a_number : {s : Span} {ks : List Kind} → Within s short_range → AreShort ks → AreShort (Range s ∷ ks)
  a_reference : {within : Shape (List ℕ) → Bool} {ks : List Kind} → AreShort ks → AreShort (Refers within ∷ ks)
