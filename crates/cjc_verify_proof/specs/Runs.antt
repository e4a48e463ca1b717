-- Programs whose instructions are what their acts say, and what their runs come to.
use Rattle.std.specs.Prelude.{◌≡◌, ℕ, true, false, List, [], map, slice_get, Option, Some, None, Contains}
use Rattle.cjc_script.specs.Bytes.declared.fault.MemberId.{MemberId}
use Rattle.cjc_script.specs.Sorts.{Shape, Signature, signature_of}
use Rattle.cjc_card_semantics.specs.Bytecode.Machine.{Start, Fetched}
use Rattle.cjc_card_semantics.specs.Machine.Loaded.{Loaded}
use Rattle.cjc_card_semantics.specs.Machine.Classes.{Class, External, Field, is_interface}
use Rattle.cjc_card_semantics.specs.Machine.Statics.{StaticCell, first_memory}
use Rattle.cjc_card_semantics.specs.Machine.Operations.{Callee}
use Rattle.cjc_card_semantics.specs.Machine.Methods.{Code, fetch}
use Rattle.cjc_card_semantics.specs.Machine.Calls.{called, sent}
use Rattle.cjc_types.specs.Fixpoint.Tables.{HasRow}
use Rattle.cjc_types.specs.declared.state.State.{State}
use Rattle.cjc_frames.specs.declared.acts.Step.{Step}
use Rattle.cjc_frames.specs.Acts.{given}
use Rattle.cjc_card_acts.specs.CardTypes.{ValueType}
use Rattle.cjc_verify_proof.specs.Memories.{IsMemory, SupersStand, AreDeclared}
use Rattle.cjc_verify_proof.specs.Frames.{Typing, Program, AreMethods, Begins}
use Rattle.cjc_verify_proof.specs.Calls.{argument_cells, AreSorts}
use Rattle.cjc_verify_proof.specs.Scripts.{HasExceptions}
use Rattle.cjc_verify_proof.specs.Turns.{IsMade, AreMade, IsHeld}
use Rattle.cjc_verify_proof.specs.Instructions.{Suits}

-- each instruction of a method that is reached is fetched, and its operation is what its act says
abbrev pub AreSuited : Loaded → Program → Typing → Type 0
AreSuited l program t = (place : ℕ) (s : Step) → (let b = t.body in slice_get b.steps place ≡ Some s) → (x : State)
    → HasRow t.rows place x
    → (i : Fetched Class Field StaticCell Callee) × ((fetch l t.code s.at ≡ Some i) × Suits l program t.result s.act
    i.operation)

-- A method that an entry names, on a receiver of a type or on none, is one of the program, and takes arguments of the
-- types that the name's descriptor says.
pub record IsEntry (l : Loaded) (program : Program) (receiver : Option (Shape Class)) (desc : List ℕ) (m : Start Code) :
    Type 0 where
  pub method : Typing
  pub among : Contains program.methods method
  pub begins : Begins method m
  pub holder : Option (List ℕ)
  pub held : IsHeld l receiver holder
  pub signature : Signature
  pub types : signature_of desc ≡ Some signature
  pub params : List ValueType
  pub sorts : AreSorts l signature.params params
  pub arguments : map (given [] []) (let b = method.body in b.arguments) ≡ argument_cells holder params

-- The methods of a program are typed and their instructions that are reached are what their acts say, exceptions are
-- there, entries begin methods of the program on what is made, its fields have slots, and the first memory holds what
-- it
-- may.
pub record IsProgram (l : Loaded) (program : Program) : Type 0 where
  pub methods : AreMethods l program
  pub suited : (t : Typing) → Contains program.methods t → AreSuited l program t
  pub has : HasExceptions l program.exceptions
  pub calls : (id : MemberId) (m : Start Code) → called l id ≡ Some m → IsEntry l program None id.desc m
  pub sends : (kind : Shape Class) → IsMade program kind → (id : MemberId) (m : Start Code) → sent l kind id ≡ Some m
      → IsEntry l program (Some kind) id.desc m
  pub supers : SupersStand l
  pub declared : AreDeclared l program.fields
  pub memory : IsMemory l program.fields (first_memory l)
  pub imported : (tree token : ℕ) → is_interface l (External tree token) ≡ false
      → program.made (External tree token) ≡ true
  pub made : (let first = first_memory l in AreMade program first.heap)
