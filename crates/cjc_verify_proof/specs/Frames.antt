-- Frames of a run that stand where the least tables of their methods say, with stacks and locals of their cells.
use Rattle.std.specs.Prelude.{Bool}
use Rattle.std.specs.Prelude.{◌≡◌, ℕ, suc, zero, ◌+◌, true, false, List, [], ◌∷◌, length, drop, slice_get, Option}
use Rattle.std.specs.Prelude.{Some, Contains}
use Rattle.std.specs.List.{AllZip}
use Rattle.cjc_types.specs.Fixpoint.Tables.{HasRow, IsClosed}
use Rattle.cjc_card_semantics.specs.CapRead.declared.tree.Handler.{Handler}
use Rattle.cjc_card_semantics.specs.CapRead.declared.tree.PoolEntry.{PoolEntry}
use Rattle.cjc_script.specs.declared.report.Outcome.{Outcome}
use Rattle.cjc_script.specs.declared.report.Outcome.TheVariants.{Done, Running, Waiting, Unfit, Stuck}
use Rattle.cjc_script.specs.Sorts.{OfClass}
use Rattle.cjc_types.specs.declared.cell.Cell.{Cell}
use Rattle.cjc_types.specs.declared.state.Stack.TheVariants.{Cells}
use Rattle.cjc_types.specs.declared.state.State.{State}
use Rattle.cjc_card_semantics.specs.Bytecode.Effects.{HeapObject, Memory}
use Rattle.cjc_card_semantics.specs.Bytecode.Machine.{Start, Frame, Turn, Next, Ended, StuckAt, Fetched}
use Rattle.cjc_card_semantics.specs.Machine.Loaded.{Part, Loaded}
use Rattle.cjc_card_semantics.specs.Machine.Classes.{Class, Field}
use Rattle.cjc_card_semantics.specs.Machine.Statics.{Image, StaticCell}
use Rattle.cjc_card_semantics.specs.Machine.Operations.{Callee, class_at}
use Rattle.cjc_card_semantics.specs.Machine.Methods.{Code, fetch}
use Rattle.cjc_frames.specs.declared.acts.Step.{Step}
use Rattle.cjc_frames.specs.declared.acts.Catch.{Catch}
use Rattle.cjc_frames.specs.Flow.{Body, place_at, covers, frame_flow}
use Rattle.cjc_frames.specs.Tables.{Breach}
use Rattle.cjc_card_acts.specs.CardTypes.{ValueType, words as words_of, shape_by, is_type_of}
use Rattle.cjc_verify_proof.specs.Words.{AreWords, AreLocals}
use Rattle.cjc_verify_proof.specs.Heaps.{object_is}
use Rattle.cjc_verify_proof.specs.Memories.{FieldTypes}

-- ---- methods

-- a method with code, as the machine runs it and as its frames are typed
pub record Typing : Type 0 where
  pub code : Code
  pub body : Body
  -- the state before each instruction that is reached
  pub rows : List (Option State)
  pub result : ValueType

-- what a handler takes by its index: 0 stands for all exceptions, which are of one type, another for the class of an
-- entry, where it names one
abbrev pub IsCaught : Loaded → (part : ℕ) → List PoolEntry → (exceptions : List ℕ) → (index : ℕ) → Option (List ℕ)
    → Type 0
IsCaught l p pool exceptions zero type = type ≡ Some exceptions
IsCaught l p pool exceptions (suc k) type = (class : Class) → class_at l p (slice_get pool (suc k)) ≡ Some class
    → (named : List ℕ) × ((type ≡ Some named) × (shape_by l named ≡ Some (OfClass class)))

-- a handler of Method as frames are typed by it
pub record IsCatch (l : Loaded) (part : ℕ) (pool : List PoolEntry) (exceptions : List ℕ) (h : Handler) (c : Catch) :
    Type 0 where
  pub start : c.start ≡ h.start
  pub length : c.length ≡ h.length
  pub target : c.target ≡ h.handler
  pub caught : IsCaught l part pool exceptions h.catch_index c.caught

-- A method whose table is closed and breaks no rule, whose handlers are those of its package, and whose instructions
-- lead to instructions.
pub record IsMethod (l : Loaded) (exceptions : List ℕ) (t : Typing) : Type 0 where
  pub room : t.code.room ≡ t.body.max_stack
  pub closed : IsClosed (frame_flow t.body) (length t.body.steps) t.rows
  pub unbroken : (place rule : ℕ) → Breach (is_type_of l) t.body t.rows place rule → ⊥
  -- an instruction that hands nothing on breaks a rule
  pub ends : (place : ℕ) (s : Step) → slice_get t.body.steps place ≡ Some s → (let a = s.act in a.ends) ≡ true
      → (let a = s.act in a.misnames) ≡ true
  pub catches : (part : Part) → slice_get l.parts t.code.part ≡ Some part
      → AllZip (IsCatch l t.code.part part.pool exceptions) (let m = part.method in m.handlers) t.body.catches
  pub lands : (place : ℕ) (s : Step) → slice_get t.body.steps place ≡ Some s → (c : Catch) → Contains t.body.catches c
      → covers c s.at ≡ true → (to : ℕ) × (place_at t.body.steps c.target ≡ Some to)
  pub jumps : (place : ℕ) (s : Step) → slice_get t.body.steps place ≡ Some s → (at : ℕ)
      → Contains (let a = s.act in a.targets) at → (to : ℕ) × (place_at t.body.steps at ≡ Some to)
  pub follows : (place : ℕ) (s : Step) → slice_get t.body.steps place ≡ Some s → (let a = s.act in a.falls) ≡ true
      → (i : Fetched Class Field StaticCell Callee) → fetch l t.code s.at ≡ Some i
      → (n : Step) × ((slice_get t.body.steps (place + 1) ≡ Some n) × (n.at ≡ i.next))

-- the methods of a program, the type of all exceptions, the types of fields, and the classes of which objects are made
pub record Program : Type 0 where
  pub methods : List Typing
  pub exceptions : List ℕ
  pub fields : FieldTypes
  pub made : Class → Bool

-- each is so
abbrev pub AreMethods : Loaded → Program → Type 0
AreMethods l program = (t : Typing) → Contains program.methods t → IsMethod l program.exceptions t

-- ---- frames

-- A frame stands at an instruction that is reached, with locals of its row.
pub record Stands (l : Loaded) (heap : List (HeapObject Class Field)) (t : Typing) (f : Frame Code) : Type 0 where
  pub is_code : f.code ≡ t.code
  pub place : ℕ
  pub step : Step
  pub is_step : slice_get t.body.steps place ≡ Some step
  pub is_at : step.at ≡ f.at
  pub cells : List Cell
  pub locals : List Cell
  pub reached : HasRow t.rows place (record { stack = Cells cells; locals = locals })
  pub typed : AreLocals (object_is l heap) locals f.locals

-- The same, with a stack of its row.
pub record Runs (l : Loaded) (heap : List (HeapObject Class Field)) (t : Typing) (f : Frame Code) : Type 0 where
  pub stands : Stands l heap t f
  pub words : AreWords (object_is l heap) stands.cells f.stack

-- A frame waits at a call for a result of a type: what the call took is gone, and the next instruction follows.
pub record Waits (l : Loaded) (heap : List (HeapObject Class Field)) (result : ValueType) (t : Typing)
    (f : Frame Code) :
    Type 0 where
  pub stands : Stands l heap t f
  pub words : (let s = stands.step in let a = s.act in AreWords (object_is l heap) (drop (length a.takes) stands.cells)
      f.stack)
  pub gives : (let s = stands.step in let a = s.act in a.gives) ≡ words_of result
  pub writes : (let s = stands.step in let a = s.act in a.writes) ≡ []
  pub falls : (let s = stands.step in let a = s.act in a.falls) ≡ true
  pub next : Step
  pub is_next : slice_get t.body.steps (stands.place + 1) ≡ Some next
  pub at_next : next.at ≡ f.next

-- frames of methods of the program that wait, each for the result of the method inside it
abbrev pub AreOuter : Loaded → Program → List (HeapObject Class Field) → ValueType → List (Frame Code)
    → Type 0
AreOuter l program heap result [] = Unit {0}
AreOuter l program heap result (f ∷ outer) = (t : Typing) × (Contains program.methods t × (Waits l heap result t f
    × AreOuter l program heap t.result outer))

-- The innermost frame runs, and the others wait.
abbrev pub AreFrames : Loaded → Program → List (HeapObject Class Field) → List (Frame Code) → Type 0
AreFrames l program heap [] = Unit {0}
AreFrames l program heap (f ∷ outer) = (t : Typing) × (Contains program.methods t × (Runs l heap t f
    × AreOuter l program heap t.result outer))

-- ---- turns

-- a run that ends is not stuck
abbrev pub IsEnd : Outcome → Type 0
IsEnd Done = Unit {0}
IsEnd Running = Unit {0}
IsEnd Waiting = Unit {0}
IsEnd (Unfit number) = Unit {0}
IsEnd (Stuck at) = ⊥

-- A turn is not stuck, and where it goes on its memory is this and its frames are typed.
abbrev pub GoesOn : Loaded → Program → Memory Class Field (List Image)
    → Turn Code Class Field (List Image) → Type 0
GoesOn l program m (Next s) = (s.memory ≡ m) × AreFrames l program m.heap s.frames
GoesOn l program m (Ended outcome s) = IsEnd outcome
GoesOn l program m (StuckAt at s) = ⊥

-- A method that begins is this one: its first instruction is the first that runs, it has as many locals, and it is not
-- abstract.
pub record Begins (t : Typing) (m : Start Code) : Type 0 where
  pub is_code : m.code ≡ t.code
  pub first : Step
  pub is_first : slice_get t.body.steps 0 ≡ Some first
  pub at_first : first.at ≡ m.at
  pub count : t.body.local_count ≡ m.nargs + m.max_locals
  pub concrete : m.is_abstract ≡ false
