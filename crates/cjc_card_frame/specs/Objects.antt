-- Arrays and objects as the heap keeps them, and what is replaced in them.
use Rattle.std.specs.Prelude.{ℕ, suc, ℤ, List, [], ◌∷◌, map, Option, Some, None, option_map, slice_get, slice_set}
use Rattle.std.specs.Prelude.{if◌then◌else◌}
use Rattle.cjc_card_semantics.specs.Script.declared.value.Value.{Value}
use Rattle.cjc_card_semantics.specs.Script.Sorts.{Element}
use Rattle.cjc_card_semantics.specs.Script.Sorts
use Rattle.cjc_card_semantics.specs.Bytecode.Effects.{Slot, HeapObject, slots_with, with_some}
use Rattle.cjc_card_semantics.specs.Bytecode.Effects
use Rattle.cjc_card_semantics.specs.Machine.Classes.{Class, Field, same_field}
use Rattle.cjc_card_semantics.specs.Machine.Classes
use Rattle.cjc_card_frame.specs.declared.heap.class.Class.{Class as ClassData}
use Rattle.cjc_card_frame.specs.declared.heap.class.Class.TheVariants as classes
use Rattle.cjc_card_frame.specs.declared.heap.class.Field.{Field as FieldData}
use Rattle.cjc_card_frame.specs.declared.heap.class.Element.{Element as ElementData}
use Rattle.cjc_card_frame.specs.declared.heap.class.Element.TheVariants as elements
use Rattle.cjc_card_frame.specs.declared.heap.class.Shape.{Shape as ShapeData}
use Rattle.cjc_card_frame.specs.declared.heap.class.Shape.TheVariants as shapes
use Rattle.cjc_card_frame.specs.declared.heap.slots.Slot.{Slot as SlotData}
use Rattle.cjc_card_frame.specs.declared.heap.object.Body.{Body}
use Rattle.cjc_card_frame.specs.declared.heap.object.Body.TheVariants as bodies
use Rattle.cjc_card_frame.specs.declared.heap.object.Parts.{Parts}
use Rattle.cjc_card_frame.specs.declared.heap.object.Parts.TheVariants as parts

-- ---- what data stands for

-- a class of a loaded part by its offset, or one of an export file by its token
abbrev pub class_of : ClassData → Class
class_of (classes.Own part offset) = Classes.Own part offset
class_of (classes.External tree token) = Classes.External tree token

-- an instance field by its class and token
abbrev pub field_of : FieldData → Field
field_of f = record { class = class_of f.class; token = f.token }

-- the kind of numbers that an array has: booleans, bytes, shorts or ints
abbrev pub element_of : ElementData → Element
element_of elements.Booleans = Sorts.Booleans
element_of elements.Bytes = Sorts.Bytes
element_of elements.Shorts = Sorts.Shorts
element_of elements.Ints = Sorts.Ints

-- the type of an object, of an array of numbers, or of an array of references
abbrev pub shape_of : ShapeData → Sorts.Shape Class
shape_of (shapes.OfClass class) = Sorts.OfClass (class_of class)
shape_of (shapes.OfNumbers element) = Sorts.OfNumbers (element_of element)
shape_of (shapes.OfReferences class) = Sorts.OfReferences (class_of class)

-- a field of an object with its value
abbrev pub slot_by : SlotData → Slot Field
slot_by s = record { key = field_of s.field; value = s.value }

-- an array or object by token
abbrev pub ObjectByToken : Type 0
ObjectByToken = HeapObject Class Field

-- the array or object that a body stands for
abbrev pub object_of : Body → ObjectByToken
object_of (bodies.Numbers element items) = Effects.Numbers (element_of element) items.items
object_of (bodies.References class items) = Effects.References (class_of class) items.items
object_of (bodies.Object class slots) = Effects.Object (class_of class) (map slot_by slots.items)

-- the array or object that these parts, which code holds, stand for
abbrev pub object_by : Parts → ObjectByToken
object_by (parts.Numbers element items) = Effects.Numbers (element_of element) items.now
object_by (parts.References class items) = Effects.References (class_of class) items.now
object_by (parts.Object class slots) = Effects.Object (class_of class) (map slot_by slots.now)

-- ---- what is found and replaced

-- the place of the first slot of a field
abbrev pub place_in : List (Slot Field) → Field → Option ℕ
place_in [] f = None
place_in (s ∷ slots) f = if same_field s.key f then Some 0 else option_map suc (place_in slots f)

-- an array of numbers with another element
abbrev pub with_number : ObjectByToken → (place : ℕ) → ℤ → ObjectByToken
with_number (Effects.Numbers element items) place z = Effects.Numbers element (slice_set items place z)
with_number object place z = object

-- an array of references with another element
abbrev pub with_reference : ObjectByToken → (place : ℕ) → Value → ObjectByToken
with_reference (Effects.References class items) place v = Effects.References class (slice_set items place v)
with_reference object place v = object

-- an object with another value under a field that it has
abbrev pub with_slot : ObjectByToken → Field → Value → ObjectByToken
with_slot (Effects.Object class slots) f v = Effects.Object class (slots_with same_field slots f v)
with_slot object f v = object

-- the heap with another number, reference or slot in the array or object of a number, where it is there
abbrev pub number_put : List ObjectByToken → (array place : ℕ) → ℤ → List ObjectByToken
number_put heap k place z = with_some heap (slice_get heap k) (λ o. slice_set heap k (with_number o place z))

-- with another reference at a place of an array
abbrev pub reference_put : List ObjectByToken → (array place : ℕ) → Value → List ObjectByToken
reference_put heap k place v = with_some heap (slice_get heap k) (λ o. slice_set heap k (with_reference o place v))

-- with another value under a field of an object
abbrev pub slot_put : List ObjectByToken → (object : ℕ) → Field → Value → List ObjectByToken
slot_put heap k f v = with_some heap (slice_get heap k) (λ o. slice_set heap k (with_slot o f v))
