-- What arrays, objects and static cells hold, by the types of the fields of a package.
use Rattle.std.specs.Prelude.{◌≡◌, ◌≤◌, ◌<◌, ◌+◌, ◌*◌, ℕ, Bool, true, false, List, length, map, slice_get, Option}
use Rattle.std.specs.Prelude.{Some}
use Rattle.cjc_card_semantics.specs.CapRead.declared.tree.ArrayInit.{ArrayInit}
use Rattle.cjc_card_semantics.specs.CapRead.declared.tree.StaticField.{StaticField}
use Rattle.cjc_card_semantics.specs.CapRead.declared.tree.ClassEntry.{ClassEntry}
use Rattle.cjc_card_semantics.specs.CapRead.declared.tree.ClassRef.{ClassRef}
use Rattle.cjc_script.specs.Sorts.{OfNumbers}
use Rattle.cjc_card_semantics.specs.Bytecode.Effects.{HeapObject, Numbers, References, Object, Slot, Memory, Effect}
use Rattle.cjc_card_semantics.specs.Bytecode.Effects.{slot_of, Go, Raise, Toss, Invoke, Leave, Stick, Letter}
use Rattle.cjc_card_semantics.specs.Machine.Loaded.{Loaded}
use Rattle.cjc_card_semantics.specs.Machine.Classes.{Class, Own, External, Field, Info, IsClass, IsInterface}
use Rattle.cjc_card_semantics.specs.Machine.Classes.{class_of, info_of, is_in, is_interface, is_kind_of, same_field}
use Rattle.cjc_card_semantics.specs.Machine.Classes.{is_reference_token, object_class, some_of, supers}
use Rattle.cjc_card_semantics.specs.Machine.Statics.{Image, StaticCell, element_of, get_static}
use Rattle.cjc_card_semantics.specs.Machine.Operations.{Callee}
use Rattle.cjc_types.specs.declared.cell.Cell.{Cell}
use Rattle.cjc_card_acts.specs.CardTypes.{ValueType, Void, Boolean, Byte, Short, Int, Reference, is_moved_by, shape_by}
use Rattle.cjc_verify_proof.specs.Words.{AreWords, AreLocals}
use Rattle.cjc_verify_proof.specs.Heaps.{object_is, AreFit}
use Rattle.cjc_verify_proof.specs.Growth.{Extends}
use Rattle.cjc_verify_proof.specs.References.{AreHeld}
use Rattle.cjc_verify_proof.specs.Values.{Holds}

-- the type of each instance field, by its class and its token, and of each static cell
pub record FieldTypes : Type 0 where
  pub field : Field → Option ValueType
  pub cell : StaticCell → Option ValueType

-- ---- objects

-- under each field of a class, or of one above it, lies a value of the field's type
abbrev pub AreSlots : Loaded → FieldTypes → (is : (type : List ℕ) → (object : ℕ) → Bool) → Class → List (Slot Field)
    → Type 0
AreSlots l t is class slots = (f : Field) (type : ValueType) → t.field f ≡ Some type
    → is_kind_of l class f.class ≡ true → Holds is type (slot_of same_field slots f)

-- an object holds such values
abbrev pub HasSlots : Loaded → FieldTypes → List (HeapObject Class Field) → HeapObject Class Field → Type 0
HasSlots l t heap (Numbers element items) = Unit {0}
HasSlots l t heap (References class items) = Unit {0}
HasSlots l t heap (Object class slots) = AreSlots l t (object_is l heap) class slots

-- all objects of a heap do
abbrev pub HaveSlots : Loaded → FieldTypes → List (HeapObject Class Field) → Type 0
HaveSlots l t heap = (k : ℕ) (thing : HeapObject Class Field) → slice_get heap k ≡ Some thing → HasSlots l t heap thing

-- ---- static cells

-- each static cell holds a value of its type, by each letter that moves such values
abbrev pub AreCells : Loaded → FieldTypes → List (HeapObject Class Field) → List Image → Type 0
AreCells l t heap images = (s : StaticCell) (type : ValueType) (letter : Letter) → t.cell s ≡ Some type
    → is_moved_by letter type ≡ true → Holds (object_is l heap) type (get_static letter s images)

-- ---- memory

-- all arrays, objects and static cells hold what they may
pub record IsMemory (l : Loaded) (t : FieldTypes) (m : Memory Class Field (List Image)) : Type 0 where
  pub numbers : AreFit m.heap
  pub references : AreHeld l m.heap
  pub slots : HaveSlots l t m.heap
  pub cells : AreCells l t m.heap m.statics

-- An instruction goes on to a place with a stack and locals of these cells and a memory that holds what it may, where
-- what was there keeps its shape, or raises.
abbrev pub Goes : Loaded → FieldTypes → (next : ℕ) (stack locals : List Cell) (m : Memory Class Field (List Image))
    → Effect Class Field Callee (List Image) → Type 0
Goes l t next s c m (Go at stack locals memory) = (at ≡ next) × (AreWords (object_is l memory.heap) s stack
    × (AreLocals (object_is l memory.heap) c locals × (IsMemory l t memory × Extends m.heap memory.heap)))
Goes l t next s c m (Raise fault) = Unit {0}
Goes l t next s c m (Toss object) = ⊥
Goes l t next s c m (Invoke method) = ⊥
Goes l t next s c m (Leave words) = ⊥
Goes l t next s c m Stick = ⊥

-- ---- what components say

-- the interfaces that an info lists
abbrev pub interfaces_of : Info → List ClassRef
interfaces_of (IsInterface i) = i.superinterfaces
interfaces_of (IsClass c) = map (λ m. m.interface) c.interfaces

-- A superclass in the group is of the same package and stands before, what is listed as an interface is one, and no
-- class of the group stands directly above one outside it or is java/lang/Object.
pub record SupersStand (l : Loaded) : Type 0 where
  pub before : (p offset : ℕ) (c : ClassEntry) (q above : ℕ) → info_of l p offset ≡ Some (IsClass c)
      → class_of l p c.superclass ≡ Some (Own q above) → (q ≡ p) × (above < offset)
  pub interfaces : (p offset : ℕ) (info : Info) (class : Class) → info_of l p offset ≡ Some info
      → is_in class (some_of (map (class_of l p) (interfaces_of info))) ≡ true → is_interface l class ≡ true
  pub outside : (tree token p offset : ℕ) → is_in (Own p offset) (supers l (External tree token)) ≡ false
  pub object : (p offset : ℕ) → object_class l ≡ Some (Own p offset) → ⊥

-- a new object holds null where a reference is, else 0
abbrev pub begins_as : (is_null : Bool) → ValueType → Bool
begins_as true (Reference type) = true
begins_as false Boolean = true
begins_as false Byte = true
begins_as false Short = true
begins_as false Int = true
begins_as is_null type = false

-- a class info has a slot for a field of a type
pub record IsDeclared (l : Loaded) (f : Field) (type : ValueType) : Type 0 where
  pub part : ℕ
  pub offset : ℕ
  pub entry : ClassEntry
  pub class : f.class ≡ Own part offset
  pub info : info_of l part offset ≡ Some (IsClass entry)
  pub below : f.token < entry.declared_instance_size
  pub kind : begins_as (is_reference_token entry f.token) type ≡ true

-- class infos have slots for all fields that have a type
abbrev pub AreDeclared : Loaded → FieldTypes → Type 0
AreDeclared l t = (f : Field) (type : ValueType) → t.field f ≡ Some type → IsDeclared l f type

-- so many bytes are there behind the reference cells
pub record AreBytes (s : StaticField) (offset size : ℕ) : Type 0 where
  pub behind : 2 * s.reference_count ≤ offset
  pub within : offset + size ≤ 2 * s.reference_count + (s.default_value_count + length s.values)

-- the cell of a reference is there, and the array that fills it at first, if any, is of its type
pub record IsReferenceCell (l : Loaded) (s : StaticField) (offset : ℕ) (type : List ℕ) : Type 0 where
  pub number : ℕ
  pub at : offset ≡ 2 * number
  pub there : number < s.reference_count
  pub array : (a : ArrayInit) → slice_get s.array_inits number ≡ Some a → shape_by l type
      ≡ Some (OfNumbers (element_of a.type_))

-- a static cell of a type is there
abbrev pub IsCellOf : Loaded → StaticField → (offset : ℕ) → ValueType → Type 0
IsCellOf l s offset Void = ⊥
IsCellOf l s offset Boolean = AreBytes s offset 1
IsCellOf l s offset Byte = AreBytes s offset 1
IsCellOf l s offset Short = AreBytes s offset 2
IsCellOf l s offset Int = AreBytes s offset 4
IsCellOf l s offset (Reference type) = IsReferenceCell l s offset type

-- the image of a lone package has the cells of all static fields that have a type
pub record ImageFits (l : Loaded) (t : FieldTypes) (s : StaticField) : Type 0 where
  pub arrays : length s.array_inits ≤ s.reference_count
  pub cells : (c : StaticCell) (type : ValueType) → t.cell c ≡ Some type → (c.part ≡ 0) × IsCellOf l s c.offset type
