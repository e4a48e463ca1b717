-- What instructions ask of the machine beside what they take and give, where the constant pool is read.
use Rattle.std.specs.Prelude.{◌≡◌, ℕ, Bool, true, false, List, [], ◌∷◌, ◌++◌, map, Option, Some, ℤ}
use Rattle.cjc_card_semantics.specs.CapRead.Opcodes.{Operand}
use Rattle.cjc_script.specs.Sorts.{Element, Shape, OfClass, OfNumbers, OfReferences}
use Rattle.cjc_card_semantics.specs.Bytecode.Calculations.{Calculation, Test}
use Rattle.cjc_card_semantics.specs.Bytecode.Effects.{Letter, Arm, Operation, Do, Branch, Pick, Touch, Load, Store}
use Rattle.cjc_card_semantics.specs.Bytecode.Effects.{Length, Throw, Return, Get, Put, GetStatic, PutStatic, Call, New}
use Rattle.cjc_card_semantics.specs.Bytecode.Effects.{NewNumbers}
use Rattle.cjc_card_semantics.specs.Bytecode.Effects.{NewReferences, Cast, Ask}
use Rattle.cjc_card_semantics.specs.Bytecode.Effects.{Memory, Effect, Go, Raise, Toss, Invoke, Leave, Stick}
use Rattle.cjc_card_semantics.specs.Machine.Loaded.{Loaded}
use Rattle.cjc_card_semantics.specs.Machine.Classes.{Class, Field, is_interface}
use Rattle.cjc_card_semantics.specs.Machine.Statics.{Image, StaticCell}
use Rattle.cjc_card_semantics.specs.Machine.Operations.{Callee}
use Rattle.cjc_frames.specs.declared.acts.Need.{Need}
use Rattle.cjc_frames.specs.declared.acts.Need.TheVariants.{NumberWord, ReferenceWord, OfType, OfArrays}
use Rattle.cjc_frames.specs.declared.acts.Given.TheVariants.{ANumber, AnObject}
use Rattle.cjc_frames.specs.declared.acts.Act.{Act}
use Rattle.cjc_card_acts.specs.Rows.{Row, idle, reading, number_words, loading_item, storing_item}
use Rattle.cjc_card_acts.specs.CardTypes.{ValueType, words, needs_of, is_moved_by, is_returned_by, all_arrays}
use Rattle.cjc_card_acts.specs.CardTypes.{shape_by}
use Rattle.cjc_verify_proof.specs.Beside.{BesidePlain, BesideTest, AreRead}
use Rattle.cjc_verify_proof.specs.Acts.{plain_act}
use Rattle.cjc_verify_proof.specs.Memories.{IsMemory}
use Rattle.cjc_verify_proof.specs.Control.{switched_words}
use Rattle.cjc_verify_proof.specs.Frames.{Program}
use Rattle.cjc_verify_proof.specs.Turns.{AreMade, Calls}

-- An instruction of a method with this result is so: what it takes and gives, and its operation.
pub data Suits (l : Loaded) (program : Program) (result : ValueType) : Act → Operation Class Field StaticCell Callee
    → Type 0 where
  plain : {r : Row} {f : List ℤ → Calculation} {kinds : List Operand} (operands : List ℤ) → BesidePlain r f kinds
      → AreRead kinds operands → Suits l program result (plain_act r operands) (Do (f operands))
  jump : {needs : List Need} {falls : Bool} {test : Test} (to : ℕ) → BesideTest needs falls test
      → Suits l program result (record idle { takes = needs; falls = falls; targets = to ∷ [] }) (Branch test to)
  switch : (is_int : Bool) (other : ℕ) (arms : List Arm) → Suits l program result (record idle {
    takes = number_words (switched_words is_int);
    falls = false;
    targets = other ∷ map (λ (a : Arm). a.to) arms;
  }) (Pick is_int other arms)
  load : (letter : Letter) → Suits l program result (loading_item letter) (Touch (Load letter))
  store : (letter : Letter) → Suits l program result (storing_item letter) (Touch (Store letter))
  arraylength : Suits l program result (record idle {
    takes = OfArrays all_arrays ∷ [];
    gives = ANumber ∷ [];
  }) (Touch Length)
  athrow : Suits l program result (record idle { takes = OfType program.exceptions ∷ []; falls = false }) (Touch Throw)
  return : (letter : Option Letter) → is_returned_by letter result ≡ true
      → Suits l program result (record idle { takes = needs_of result; falls = false }) (Touch (Return letter))
  newarray : (element : Element) (type : List ℕ) → shape_by l type ≡ Some (OfNumbers element)
      → Suits l program result (record idle { takes = NumberWord ∷ []; gives = AnObject type ∷ [] })
      (NewNumbers element)
  anewarray : (class : Class) (type : List ℕ) → shape_by l type ≡ Some (OfReferences class)
      → Suits l program result (record idle { takes = NumberWord ∷ []; gives = AnObject type ∷ [] })
      (NewReferences class)
  checkcast : (target : Shape Class) (type : List ℕ) → shape_by l type ≡ Some target
      → Suits l program result (record idle { takes = ReferenceWord ∷ []; gives = AnObject type ∷ [] }) (Cast target)
  instanceof : (target : Shape Class)
      → Suits l program result (record idle { takes = ReferenceWord ∷ []; gives = ANumber ∷ [] }) (Ask target)
  getfield : (f : Field) (letter : Letter) (type : ValueType) (name : List ℕ)
      → (let fields = program.fields in fields.field f ≡ Some type) → is_moved_by letter type ≡ true
      → shape_by l name ≡ Some (OfClass f.class)
      → Suits l program result (record idle { takes = OfType name ∷ []; gives = words type }) (Get false letter f)
  getfield_this : (f : Field) (letter : Letter) (type : ValueType) (name : List ℕ)
      → (let fields = program.fields in fields.field f ≡ Some type) → is_moved_by letter type ≡ true
      → shape_by l name ≡ Some (OfClass f.class)
      → Suits l program result (record idle { reads = reading 0 (OfType name) ∷ []; gives = words type })
      (Get true letter f)
  putfield : (f : Field) (letter : Letter) (type : ValueType) (name : List ℕ)
      → (let fields = program.fields in fields.field f ≡ Some type) → is_moved_by letter type ≡ true
      → shape_by l name ≡ Some (OfClass f.class)
      → Suits l program result (record idle { takes = needs_of type ++ OfType name ∷ [] }) (Put false letter f)
  putfield_this : (f : Field) (letter : Letter) (type : ValueType) (name : List ℕ)
      → (let fields = program.fields in fields.field f ≡ Some type) → is_moved_by letter type ≡ true
      → shape_by l name ≡ Some (OfClass f.class)
      → Suits l program result (record idle { takes = needs_of type; reads = reading 0 (OfType name) ∷ [] })
      (Put true letter f)
  getstatic : (c : StaticCell) (letter : Letter) (type : ValueType)
      → (let fields = program.fields in fields.cell c ≡ Some type) → is_moved_by letter type ≡ true
      → Suits l program result (record idle { gives = words type }) (GetStatic letter c)
  putstatic : (c : StaticCell) (letter : Letter) (type : ValueType)
      → (let fields = program.fields in fields.cell c ≡ Some type) → is_moved_by letter type ≡ true
      → Suits l program result (record idle { takes = needs_of type }) (PutStatic letter c)
  new : (class : Class) (name : List ℕ) → program.made class ≡ true → is_interface l class ≡ false → shape_by l name
      ≡ Some (OfClass class)
      → Suits l program result (record idle { gives = AnObject name ∷ [] }) (New class)
  call : {a : Act} {callee : Callee} → Calls l program a callee → Suits l program result a (Call callee)

-- Where an instruction goes on, arrays, objects and static fields hold what they may, and all of them are made as
-- before.
abbrev pub HoldsOn : Loaded → Program → (m : Memory Class Field (List Image)) → Effect Class Field Callee (List Image)
    → Type 0
HoldsOn l program m (Go at stack locals memory) = IsMemory l program.fields memory × (AreMade program m.heap
    → AreMade program memory.heap)
HoldsOn l program m (Raise fault) = Unit {0}
HoldsOn l program m (Toss object) = Unit {0}
HoldsOn l program m (Invoke callee) = Unit {0}
HoldsOn l program m (Leave words) = Unit {0}
HoldsOn l program m Stick = Unit {0}
