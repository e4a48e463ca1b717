-- When an exception leads both machines to the same handler, from the innermost frame outwards, or out of all frames.
use Rattle.std.specs.Prelude.{◌≡◌, ℕ, List, [], ◌∷◌, ◌++◌, length, Some, Bool}
use Rattle.cjc_code.specs.declared.insn.JInsn.{JInsn}
use Rattle.cjc_script.specs.declared.value.Value.TheVariants.{Obj}
use Rattle.cjc_script.specs.declared.report.Note.TheVariants.{Thrown}
use Rattle.cjc_script.specs.declared.report.Thing.TheVariants as things
use Rattle.cjc_script.specs.Sorts.{Shape, OfClass, shape_name}
use Rattle.cjc_card_semantics.specs.Bytecode.Runs.{Move, On}
use Rattle.cjc_card_semantics.specs.Bytecode.Effects.{Object}
use Rattle.cjc_card_semantics.specs.Bytecode.Machine.{Next}
use Rattle.cjc_card_semantics.specs.Bytecode.Machine as narrow
use Rattle.cjc_ncode.specs.Written.{Resolution, place_in}
use Rattle.cjc_ncode.specs.ByLabel.{Named, by_label}
use Rattle.cjc_jvm_semantics.specs.Linked.{Linked}
use Rattle.cjc_jvm_semantics.specs.Effects.{Fault, exception_class, place}
use Rattle.cjc_jvm_semantics.specs.Machine.{Frame, State, with_frames, with_note, with_last}
use Rattle.cjc_narrow_proof.specs.Selection.Relation.{Kind, Refers, Heap, Locals, Stores}
use Rattle.cjc_narrow_proof.specs.Selection.Rows.{narrow_fault}
use Rattle.cjc_narrow_proof.specs.Selection.Calls.{NFrame, NState, NTurn, Frames, HandlesAlike}

-- the arrays and objects of narrow code
abbrev pub nheap : NState → Heap
nheap t = let m = t.memory in m.heap

-- Frames of both machines, the innermost first: those of each couple handle an exception of this type alike, and their
-- locals
-- agree.
pub data HandleAlike (by : Linked) (l : Named) (heap : Heap) (kind : Shape (List ℕ)) : List Frame → List NFrame
    → Type 0 where
  no_frame : HandleAlike by l heap kind [] []
  a_frame : {f : Frame} {g : NFrame} {outer : List Frame} {others : List NFrame} (r : Resolution) (reached : List JInsn)
      (ls : List Kind) → HandlesAlike by l r reached kind f g → Locals heap ls f.locals g.locals
      → HandleAlike by l heap kind outer others → HandleAlike by l heap kind (f ∷ outer) (g ∷ others)

-- Both machines go on in the frames of one couple, at a handler and at what is written for its target, with the
-- exception alone on
-- the stack, above the frames that were outside of them; or no frame is left, and the exception is noted.
pub data Unwinds (by : Linked) (l : Named) (within : Shape (List ℕ) → Bool) (object : ℕ) (kind : Shape (List ℕ))
    (s : State) (t : NState) : List Frame → List NFrame → Move State → NTurn → Type 0 where
  handled : {f : Frame} {g : NFrame} {outer : List Frame} {others : List NFrame} (r : Resolution) (reached : List JInsn)
      (ls : List Kind) (target : ℕ)
      → Frames (nheap t) (Refers within ∷ []) ls (record f {
        at = place (let m = f.method in m.insns) target;
        stack = Obj object ∷ [];
      }) (record g { at = place_in r reached target; stack = Obj object ∷ [] })
      → Unwinds by l within object kind s t (f ∷ outer) (g ∷ others)
      (On (with_frames (record f { at = place (let m = f.method in m.insns) target; stack = Obj object ∷ [] }
      ∷ outer) s)) (Next (record t {
        frames = record g { at = place_in r reached target; stack = Obj object ∷ [] }
            ∷ others;
      }))
  outwards : {f : Frame} {g : NFrame} {outer : List Frame} {others : List NFrame} {m : Move State} {n : NTurn}
      → Unwinds by l within object kind s t outer others m n → Unwinds by l within object kind s t (f ∷ outer) (g
      ∷ others) m n
  unhandled : Unwinds by l within object kind s t [] []
      (On (with_frames [] (with_note (Thrown (shape_name kind) object) s))) (Next (record t {
        frames = [];
        notes = t.notes ++ Thrown (shape_name kind) object ∷ [];
      }))

-- A new object without fields, of this class, is thrown: heaps agree with it at their ends, and both machines unwind.
pub record Raises (by : Linked) (l : Named) (within : Shape (List ℕ) → Bool) (class : List ℕ) (s : State) (t : NState)
    (fs : List Frame) (gs : List NFrame) (m : Move State) (n : NTurn) : Type 0 where
  pub stores : Stores l (let u = with_last (things.Object class []) s in u.store) (let u = narrow.with_last (by_label l)
      (Object class []) t in u.memory)
  pub unwinds : Unwinds by l within (length (nheap t)) (OfClass class) (with_last (things.Object class []) s)
      (narrow.with_last (by_label l) (Object class []) t) fs gs m n

-- Narrow code makes objects of an imported class for an exception of the machine's own: the class that it has by name.
pub record IsRaised (l : Named) (fault : Fault) : Type 0 where
  pub class : l.fault (narrow_fault fault) ≡ Some (exception_class fault)
  pub imported : l.imported (exception_class fault) ≡ Some (exception_class fault)
