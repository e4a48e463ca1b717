-- What was found of the methods of a package, place by place, and when whole states of both machines agree by it.
use Rattle.std.specs.Prelude.{◌≡◌, ℕ, ◌+◌, ◌-◌, ◌<◌, List, [], ◌∷◌, ◌++◌, Option, Some, option_map, Bool, true}
use Rattle.std.specs.Prelude.{slice_get}
use Rattle.cjc_code.specs.declared.insn.JInsn.{JInsn}
use Rattle.cjc_script.specs.Sorts.{Shape, OfClass, shape_name}
use Rattle.cjc_card_semantics.specs.Bytecode.Machine.{Start}
use Rattle.cjc_ncode.specs.declared.narrow.NMethod.{NMethod}
use Rattle.cjc_ncode.specs.Written.{Resolution, place_in}
use Rattle.cjc_ncode.specs.ByLabel.{Named}
use Rattle.cjc_ncode.specs.ByLabel as labels
use Rattle.cjc_jvm_semantics.specs.Linked.{Method, Linked}
use Rattle.cjc_jvm_semantics.specs.Effects.{Fault, exception_class, place}
use Rattle.cjc_jvm_semantics.specs.Machine.{Frame, State, offset_of, handler, room}
use Rattle.cjc_narrow_proof.specs.Selection.Relation.{Kind, Refers, Heap, OnBoth, Owns, AllWider}
use Rattle.cjc_script.specs.declared.value.Value.{Value}
use Rattle.cjc_narrow_proof.specs.Selection.Rows.{HasRoom}
use Rattle.cjc_narrow_proof.specs.Selection.Calls.{NFrame, NState, Frames}
use Rattle.cjc_narrow_proof.specs.Selection.Throws.{nheap, IsRaised}
use Rattle.cjc_narrow_proof.specs.Selection.Results.{AreShort}
use Rattle.cjc_narrow_proof.specs.Selection.Replies.{StatesAgree}

-- what is known before an instruction: of the cells of the stack with the top first, and of the locals
pub record Point : Type 0 where
  pub stack : List Kind
  pub locals : List Kind

-- Of each method: what is written for it, how names are resolved there, which instructions are reached, what is known
-- before the
-- instruction at a place of its list where that is reached, and what its callers are given. Of each type: whether it
-- may be thrown.
pub record Table : Type 0 where
  pub narrowed : Method → Start NMethod
  pub resolution : Method → Resolution
  pub reached : Method → List JInsn
  pub point : Method → (at : ℕ) → Option Point
  pub results : Method → List Kind
  pub may_throw : Shape (List ℕ) → Bool

-- what is written for a method
abbrev pub code_of : Table → Method → NMethod
code_of tb m = let start = tb.narrowed m in start.code

-- the place of what is written for an offset
abbrev pub written_place : Table → Method → (offset : ℕ) → ℕ
written_place tb m offset = place_in (tb.resolution m) (tb.reached m) offset

-- the offset of the instruction at a place of a method's list
abbrev pub offset_at : Method → (at : ℕ) → ℕ
offset_at m at = offset_of (slice_get m.insns at)

-- the place of what is written for the instruction at a place of a method's list
abbrev pub spot : Table → Method → (at : ℕ) → ℕ
spot tb m at = written_place tb m (offset_at m at)

-- Where both machines go on in a method with cells and locals of these kinds, no more is known.
pub record Arrives (tb : Table) (m : Method) (at next : ℕ) (ks ls : List Kind) : Type 0 where
  pub point : Point
  pub is_reached : tb.point m at ≡ Some point
  pub place : next ≡ spot tb m at
  pub stack : AllWider ks point.stack
  pub locals : AllWider ls point.locals
  pub all_there : OnBoth point.stack

-- The same where the narrow stack may leave a reference out: it owns what the stack by name holds.
pub record Comes (tb : Table) (m : Method) (at next : ℕ) (ks ls : List Kind) (vs : List Value)
    (words : List (Option Value)) : Type 0 where
  pub point : Point
  pub is_reached : tb.point m at ≡ Some point
  pub place : next ≡ spot tb m at
  pub stack : AllWider ks point.stack
  pub locals : AllWider ls point.locals
  pub owns : Owns words point.stack vs

-- Exceptions of the machine's own are made alike, and each may be thrown.
pub record MayRaise (l : Named) (tb : Table) : Type 0 where
  pub raises : (fault : Fault) → IsRaised l fault
  pub may_raise : (fault : Fault) → tb.may_throw (OfClass (exception_class fault)) ≡ true

-- ---- handlers

-- At a handler's target no more is known than that an exception of a type is alone on the stack, which has room for it.
pub record Handles (tb : Table) (m : Method) (target : ℕ) (ls : List Kind) (kind : Shape (List ℕ)) : Type 0 where
  pub within : Shape (List ℕ) → Bool
  pub passes : within kind ≡ true
  pub arrives : Arrives tb m (place m.insns target) (written_place tb m target) (Refers within ∷ []) ls
  pub has_room : 0 < m.max_stack
  pub narrow_has_room : 0 < (let code = code_of tb m in code.max_stack)

-- the class that holds a method's code
abbrev pub class_of_code : Method → List ℕ
class_of_code m = let id = m.id in id.class

-- the handler that takes an exception of a type at a place of a method's list
abbrev pub handler_at : Linked → Method → (at : ℕ) → Shape (List ℕ) → Option ℕ
handler_at by m at kind = handler by (class_of_code m) m.catches (offset_at m at) (shape_name kind)

-- An exception of a type is handled alike at a place, where locals are of these kinds: both searches find the same, or
-- none.
pub record CatchesAlike (by : Linked) (l : Named) (tb : Table) (m : Method) (at : ℕ) (ls : List Kind)
    (kind : Shape (List ℕ)) : Type 0 where
  pub found : labels.handler l (let code = code_of tb m in code.catches) (spot tb m at) kind
      ≡ option_map (written_place tb m) (handler_at by m at kind)
  pub handles : (target : ℕ) → handler_at by m at kind ≡ Some target → Handles tb m target ls kind

-- each type that may be thrown
abbrev pub Catches : Linked → Named → Table → Method → (at : ℕ) → List Kind → Type 0
Catches by l tb m at ls = (kind : Shape (List ℕ)) → tb.may_throw kind ≡ true → CatchesAlike by l tb m at ls kind

-- ---- frames

-- Both frames are before the same instruction of a method, with what is known there.
pub record Stands (tb : Table) (heap : Heap) (f : Frame) (g : NFrame) : Type 0 where
  pub point : Point
  pub is_reached : tb.point f.method f.at ≡ Some point
  pub code : g.code ≡ code_of tb f.method
  pub place : g.at ≡ spot tb f.method f.at
  pub agree : Frames heap point.stack point.locals f g
  pub owns : Owns g.locals point.stack f.stack

-- Both frames wait behind the same call: with a result of these kinds they go on, and an exception is handled alike.
pub record Waits (by : Linked) (l : Named) (tb : Table) (heap : Heap) (results : List Kind) (f : Frame) (g : NFrame) :
    Type 0 where
  pub ks : List Kind
  pub ls : List Kind
  pub code : g.code ≡ code_of tb f.method
  pub place : g.at ≡ spot tb f.method f.at
  pub agree : Frames heap ks ls f g
  pub arrives : Arrives tb f.method (f.at + 1) g.next (results ++ ks) ls
  pub has_room : HasRoom (results ++ ks) (room f) (let m = g.code in m.max_stack)
  pub catches : Catches by l tb f.method f.at ls

-- The frames of both machines that wait for a result of these kinds, the innermost first. What ends an entry is the
-- same on both sides.
pub data Waiting (by : Linked) (l : Named) (tb : Table) (heap : Heap) : (results : List Kind) → List Frame → List NFrame
    → Type 0 where
  no_frame : {results : List Kind} → AreShort results → Waiting by l tb heap results [] []
  a_frame : {results : List Kind} {f : Frame} {g : NFrame} {outer : List Frame} {others : List NFrame}
      → Waits by l tb heap results f g → Waiting by l tb heap (tb.results f.method) outer others
      → Waiting by l tb heap results (f ∷ outer) (g ∷ others)

-- ---- states

-- A state of each machine that agree: no frame is active in either, or both are in the same method, above frames that
-- wait alike.
pub data Couple (by : Linked) (l : Named) (tb : Table) : Type 0 where
  between : (s : State) (t : NState) → StatesAgree l s t → Couple by l tb
  inside : (f : Frame) (outer : List Frame) (s : State) (g : NFrame) (others : List NFrame) (t : NState)
      → StatesAgree l s t → Stands tb (nheap t) f g → Waiting by l tb (nheap t) (tb.results f.method) outer others
      → Couple by l tb

module _ {by : Linked} {l : Named} {tb : Table} where
  -- the state of the machine by name
  abbrev pub left : Couple by l tb → State
  left (between s t same) = record s { frames = [] }
  left (inside f outer s g others t same stands waiting) = record s { frames = f ∷ outer }

  -- the state of the narrow machine
  abbrev pub right : Couple by l tb → NState
  right (between s t same) = record t { frames = [] }
  right (inside f outer s g others t same stands waiting) = record t { frames = g ∷ others }

  -- how many instructions for which nothing is written may follow at most
  abbrev pub measure : Couple by l tb → ℕ
  measure (between s t same) = 65534
  measure (inside f outer s g others t same stands waiting) = 65534 - f.at
