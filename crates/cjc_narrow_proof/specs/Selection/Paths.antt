-- What a jump, an instruction for which nothing is written, and a switch for which two are written are to the turns of
-- both machines.
use Rattle.std.specs.Prelude.{◌≡◌, ℕ, ◌+◌, List, ◌∷◌, Option}
use Rattle.std.specs.List.{Contains}
use Rattle.cjc_script.specs.declared.value.Value.{Value}
use Rattle.cjc_card_semantics.specs.Bytecode.Runs.{Move, On}
use Rattle.cjc_card_semantics.specs.Bytecode.Machine.{Next, spent_by, made, step as narrow_step}
use Rattle.cjc_ncode.specs.ByLabel.{Named, by_label}
use Rattle.cjc_jvm_semantics.specs.Linked.{Linked}
use Rattle.cjc_jvm_semantics.specs.Effects.{Store, Effect, place}
use Rattle.cjc_jvm_semantics.specs.Machine.{Frame, State, spend, step, after_effect}
use Rattle.cjc_narrow_proof.specs.Selection.Relation.{Kind, NMemory, Stacks, Locals, Stores}
use Rattle.cjc_narrow_proof.specs.Selection.Rows.{NEffect}
use Rattle.cjc_narrow_proof.specs.Selection.Calls.{NFrame, NState, NTurn}
use Rattle.cjc_narrow_proof.specs.Selection.Throws.{nheap}
use Rattle.cjc_narrow_proof.specs.Selection.Acts.{Keeps}
use Rattle.cjc_narrow_proof.specs.Selection.Turns.{with_spent}

-- Both machines spend one instruction and go on in the innermost frames, at what stands for one of these offsets or
-- behind the jump.
pub data JumpTurn (l : Named) (ks ls : List Kind) (offsets : List ℕ) (narrow_place : ℕ
    → ℕ) (f : Frame) (outer : List Frame) (s : State) (g : NFrame) (others : List NFrame) (t : NState) : Move State
    → NTurn → Type 0 where
  jumps : {store : Store} {memory : NMemory} {vs ws : List Value} {locals words : List (Option Value)} (offset : ℕ)
      → Contains offsets offset → Stacks memory.heap ks vs ws → Locals memory.heap ls locals words
      → Stores l store memory → Keeps (nheap t) memory.heap
      → JumpTurn l ks ls offsets narrow_place f outer s g others t
      (On (record s {
        frames = record f {
          at = place (let m = f.method in m.insns) offset;
          stack = vs;
          locals = locals;
        } ∷ outer;
        store = store;
        spent = s.spent + 1;
      }))
      (Next (record t {
        frames = record g { at = narrow_place offset; stack = ws; locals = words } ∷ others;
        memory = memory;
        spent = t.spent + 1;
      }))
  falls : {store : Store} {memory : NMemory} {vs ws : List Value} {locals words : List (Option Value)}
      → Stacks memory.heap ks vs ws → Locals memory.heap ls locals words → Stores l store memory
      → Keeps (nheap t) memory.heap
      → JumpTurn l ks ls offsets narrow_place f outer s g others t (On (record s {
        frames = record f {
          at = f.at + 1;
          stack = vs;
          locals = locals;
        } ∷ outer;
        store = store;
        spent = s.spent + 1;
      }))
      (Next (record t {
        frames = record g { at = g.at + 1; stack = ws; locals = words } ∷ others;
        memory = memory;
        spent = t.spent + 1;
      }))

-- The machine by name spends one instruction and goes on behind it, with a stack that agrees with the narrow one as it
-- is.
pub record SilentTurn (by : Linked) (ks : List Kind) (f : Frame) (outer : List Frame) (s : State) (g : NFrame)
    (t : NState) : Type 0 where
  pub stack : List Value
  pub moves : step by (f ∷ outer) s ≡ On (record s {
    frames = record f { at = f.at + 1; stack = stack } ∷ outer;
    spent = s.spent + 1;
  })
  pub agree : Stacks (nheap t) ks stack g.stack

-- a narrow frame behind its instruction, with another stack
abbrev pub one_further : NFrame → List Value → NFrame
one_further g ws = record g { at = g.at + 1; stack = ws }

-- The narrow machine spends one instruction, and then both spend one that leads to one place.
pub record TwoTurns (by : Linked) (l : Named) (ks ls : List Kind) (offsets : List ℕ) (narrow_place : ℕ
    → ℕ) (f : Frame) (outer : List Frame) (s : State) (g : NFrame) (others : List NFrame) (t : NState) : Type 0 where
  pub stack : List Value
  pub first : narrow_step (by_label l) (g ∷ others) t ≡ Next (record t {
    frames = one_further g stack ∷ others;
    spent = t.spent + 1;
  })
  pub then_both : JumpTurn l ks ls offsets narrow_place f outer s (one_further g stack) others (with_spent t)
      (step by (f ∷ outer) s) (narrow_step (by_label l) (one_further g stack ∷ others) (with_spent t))

-- A turn of each machine is what its instruction asks.
pub record TurnsAre (by : Linked) (l : Named) (f : Frame) (outer : List Frame) (s : State) (g : NFrame)
    (others : List NFrame) (t : NState) (effect : Effect) (effect' : NEffect) : Type 0 where
  pub by_name : step by (f ∷ outer) s ≡ spend by (after_effect by effect f outer s)
  pub narrow : narrow_step (by_label l) (g ∷ others) t ≡ spent_by (by_label l) t.spent (made (by_label l) effect'
      (g.at + 1) g others (with_spent t))
