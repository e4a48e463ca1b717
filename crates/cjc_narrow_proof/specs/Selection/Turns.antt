-- What a row of an instruction is to one turn of both machines.
use Rattle.std.specs.Prelude.{◌≡◌, ℕ, ◌+◌, List, ◌∷◌, Option, Bool, true}
use Rattle.cjc_script.specs.declared.value.Value.{Value}
use Rattle.cjc_script.specs.Sorts.{Shape, OfClass}
use Rattle.cjc_card_semantics.specs.Bytecode.Runs.{Move, On}
use Rattle.cjc_card_semantics.specs.Bytecode.Machine.{Next, spent_by}
use Rattle.cjc_ncode.specs.ByLabel.{Named, by_label}
use Rattle.cjc_jvm_semantics.specs.Linked.{Linked}
use Rattle.cjc_jvm_semantics.specs.Effects.{Fault, Store, exception_class}
use Rattle.cjc_jvm_semantics.specs.Machine.{Frame, State, spend}
use Rattle.cjc_narrow_proof.specs.Selection.Relation.{Kind, NMemory, Stacks, Locals, Stores}
use Rattle.cjc_narrow_proof.specs.Selection.Calls.{NFrame, NState, NTurn}
use Rattle.cjc_narrow_proof.specs.Selection.Throws.{nheap, Raises}
use Rattle.cjc_narrow_proof.specs.Selection.Acts.{Keeps}

-- one narrow instruction more is spent
abbrev pub with_spent : NState → NState
with_spent t = record t { spent = t.spent + 1 }

-- Both machines spend one instruction. They go on behind it in the innermost frames, with stacks and locals of these
-- kinds, heaps and
-- static cells that agree, where what was on the heap has its type; or both raise the same exception, which goes
-- outwards alike.
pub data TurnAgrees (by : Linked) (l : Named) (ks ls : List Kind) (at next : ℕ) (f : Frame) (outer : List Frame)
    (s : State) (g : NFrame) (others : List NFrame) (t : NState) : Move State → NTurn → Type 0 where
  goes_on : {store : Store} {memory : NMemory} {vs ws : List Value} {locals words : List (Option Value)}
      → Stacks memory.heap ks vs ws → Locals memory.heap ls locals words → Stores l store memory
      → Keeps (nheap t) memory.heap
      → TurnAgrees by l ks ls at next f outer s g others t (On (record s {
        frames = record f {
          at = at;
          stack = vs;
          locals = locals;
        } ∷ outer;
        store = store;
        spent = s.spent + 1;
      }))
      (Next (record t {
        frames = record g { at = next; stack = ws; locals = words } ∷ others;
        memory = memory;
        spent = t.spent + 1;
      }))
  raises : (fault : Fault) {m : Move State} {n : NTurn} → ((within : Shape (List ℕ) → Bool)
      → within (OfClass (exception_class fault)) ≡ true → Raises by l within (exception_class fault) s (with_spent t) (f
      ∷ outer) (g ∷ others) m n)
      → TurnAgrees by l ks ls at next f outer s g others t (spend by m) (spent_by (by_label l) t.spent n)
