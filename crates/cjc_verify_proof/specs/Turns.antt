-- Calls and turns of a run whose frames are typed.
use Rattle.std.specs.Prelude.{slice_get}
use Rattle.std.specs.Prelude.{◌≡◌, ℕ, true, List, [], ◌++◌, map, length, reverse, Option, Some, None}
use Rattle.std.specs.Prelude.{Contains}
use Rattle.cjc_script.specs.Bytes.declared.fault.MemberId.{MemberId}
use Rattle.cjc_script.specs.Sorts.{Shape, OfClass, OfNumbers, OfReferences, Signature, signature_of}
use Rattle.cjc_types.specs.declared.cell.Cell.{Cell}
use Rattle.cjc_types.specs.declared.state.Stack.TheVariants.{Cells}
use Rattle.cjc_card_semantics.specs.Bytecode.Effects.{HeapObject, Memory, Effect, Go, Raise, Toss, Invoke, Leave, Stick}
use Rattle.cjc_card_semantics.specs.Bytecode.Machine.{Start, Reached, Within, Abroad, Turn}
use Rattle.cjc_card_semantics.specs.Machine.Loaded.{Loaded}
use Rattle.cjc_card_semantics.specs.Machine.Classes.{Class, Field}
use Rattle.cjc_card_semantics.specs.Machine.Statics.{Image}
use Rattle.cjc_card_semantics.specs.Machine.Operations.{Callee}
use Rattle.cjc_card_semantics.specs.Machine.Methods.{Code}
use Rattle.cjc_card_semantics.specs.Machine.Calls.{on_object, words, reached}
use Rattle.cjc_frames.specs.declared.acts.Act.{Act}
use Rattle.cjc_frames.specs.Acts.{given, stack_behind, with_writes}
use Rattle.cjc_card_acts.specs.CardTypes.{ValueType, needs_of_all, shape_by, both_of}
use Rattle.cjc_card_acts.specs.CardTypes as types
use Rattle.cjc_verify_proof.specs.Words.{AreWords, AreLocals}
use Rattle.cjc_verify_proof.specs.Heaps.{object_is, shape_in}
use Rattle.cjc_verify_proof.specs.Growth.{Extends}
use Rattle.cjc_verify_proof.specs.Control.{next_if, cells_of}
use Rattle.cjc_verify_proof.specs.Frames.{Typing, Program, GoesOn, Begins}
use Rattle.cjc_verify_proof.specs.Calls.{receiver_needs, has_receiver, argument_cells, AreSorts, IsResult}
use Rattle.cjc_verify_proof.specs.Scripts.{GoesOnPrepared}

-- ---- things that are made

-- an array, or an object of a class of which objects are made
abbrev pub IsMade : Program → Shape Class → Type 0
IsMade program (OfClass c) = program.made c ≡ true
IsMade program (OfNumbers element) = Unit {0}
IsMade program (OfReferences c) = Unit {0}

-- all arrays and objects of a heap are so
abbrev pub AreMade : Program → List (HeapObject Class Field) → Type 0
AreMade program heap = (k : ℕ) (kind : Shape Class) → shape_in (slice_get heap k) ≡ Some kind → IsMade program kind

-- ---- calls

-- a receiver of this type is of the type of the class that holds a method; where there is none the method has none
abbrev pub IsHeld : Loaded → (receiver : Option (Shape Class)) → (holder : Option (List ℕ)) → Type 0
IsHeld l None None = Unit {0}
IsHeld l None (Some type) = ⊥
IsHeld l (Some kind) None = ⊥
IsHeld l (Some kind) (Some type) = both_of l (Some kind) (shape_by l type) ≡ true

-- What a call on a receiver of a type reaches has these parameters and this result: a method that begins, or an
-- imported
-- one.
pub data IsReached (l : Loaded) (program : Program) (receiver : Option (Shape Class)) (params : List ValueType)
    (result : ValueType) : Reached Code → Type 0 where
  within : (m : Start Code) (t : Typing) (holder : Option (List ℕ)) → Contains program.methods t → Begins t m
      → IsHeld l receiver holder → map (given [] []) (let b = t.body in b.arguments) ≡ argument_cells holder params
      → t.result ≡ result → IsReached l program receiver params result (Within m)
  abroad : (id : MemberId) (signature : Signature) → signature_of id.desc ≡ Some signature
      → AreSorts l signature.params params → IsResult l signature.result result
      → IsReached l program receiver params result (Abroad id)

-- a call reaches such a method, on each receiver of its type that is made
abbrev pub Reaches : Loaded → (program : Program) → Callee → (receiver : Option (List ℕ)) → List ValueType → ValueType
    → Type 0
Reaches l program callee None params result = IsReached l program None params result (reached l callee None)
Reaches l program callee (Some type) params result = (kind : Shape Class) → IsMade program kind
    → both_of l (Some kind) (shape_by l type) ≡ true
    → IsReached l program (Some kind) params result (reached l callee (Some kind))

-- An instruction is a call of a method with these parameters and this result.
pub record Calls (l : Loaded) (program : Program) (a : Act) (callee : Callee) : Type 0 where
  pub receiver : Option (List ℕ)
  pub params : List ValueType
  pub result : ValueType
  pub takes : a.takes ≡ needs_of_all params ++ receiver_needs receiver
  pub gives : a.gives ≡ types.words result
  pub writes : a.writes ≡ []
  pub falls : a.falls ≡ true
  pub count : words l callee ≡ Some (length a.takes)
  pub on : on_object callee ≡ has_receiver receiver
  pub reaches : Reaches l program callee receiver params result

-- ---- turns

-- What the machine does at an instruction of a method with this result is what the act says: it goes on where that
-- leads, with a stack and locals of what it gives, or raises, or throws an exception, or leaves with a result, or
-- calls.
abbrev pub Does : Loaded → (program : Program) → (result : ValueType) → Act → (next : ℕ) (locals cells : List Cell)
    → (m : Memory Class Field (List Image)) → Effect Class Field Callee (List Image) → Type 0
Does l program result a next lc cs m (Go at stack locals memory) = Contains (next_if a.falls next ++ a.targets) at
    × (Extends m.heap memory.heap × (AreWords (object_is l memory.heap) (stack_behind a lc cs) stack
    × AreLocals (object_is l memory.heap) (with_writes a lc (Cells cs) a.writes lc) locals))
Does l program result a next lc cs m (Raise fault) = Unit {0}
Does l program result a next lc cs m (Toss object) = object_is l m.heap program.exceptions object ≡ true
Does l program result a next lc cs m (Invoke callee) = Calls l program a callee
Does l program result a next lc cs m (Leave words) = AreWords (object_is l m.heap) (cells_of result) (reverse words)
Does l program result a next lc cs m Stick = ⊥

-- A turn is not stuck, and where it goes on its memory is that of the effect, or one of a script's acts, and its frames
-- are typed.
abbrev pub GoesOnBy : Loaded → (program : Program) → Memory Class Field (List Image)
    → Effect Class Field Callee (List Image) → Turn Code Class Field (List Image) → Type 0
GoesOnBy l program m (Go at stack locals memory) turn = GoesOn l program memory turn
GoesOnBy l program m (Raise fault) turn = GoesOnPrepared l program m turn
GoesOnBy l program m (Toss object) turn = GoesOnPrepared l program m turn
GoesOnBy l program m (Invoke callee) turn = GoesOnPrepared l program m turn
GoesOnBy l program m (Leave words) turn = GoesOnPrepared l program m turn
GoesOnBy l program m Stick turn = GoesOnPrepared l program m turn
