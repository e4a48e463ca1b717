-- How a frame of the machine by name, on numbers of 32 bits, and one of narrow code, on words of 16 bits, agree, and
-- the
-- heaps and static cells with them. It knows no instruction, and not how a table was made.
use Rattle.std.specs.Prelude.{◌≡◌, ℕ, List, [], ◌∷◌, map, All, Option, Some, Bool, true, slice_get, ℤ, pos, length, ◌≤◌}
use Rattle.cjc_bytes.specs.declared.fault.MemberId.{MemberId}
use Rattle.cjc_range.specs.Words.{low_word}
use Rattle.cjc_range.specs.Span.{Span, span, Holds, Within, byte_range, short_range, full}
use Rattle.cjc_script.specs.declared.value.Value.{Value}
use Rattle.cjc_script.specs.declared.value.Value.TheVariants.{Num, Null, Obj}
use Rattle.cjc_script.specs.declared.report.Thing.{Thing}
use Rattle.cjc_script.specs.Sorts.{Element, Booleans, Bytes, Shorts, Ints, Shape, OfClass, OfNumbers, OfReferences}
use Rattle.cjc_script.specs.Sorts.{Sort, Boolean, Byte, Short, Int, Reference, field_sort, shape_name, shape_named}
use Rattle.cjc_card_semantics.specs.Bytecode.Effects.{Slot, HeapObject, Numbers, References, Object, Memory, shape}
use Rattle.cjc_card_semantics.specs.Bytecode.Calculations.{is_reference}
use Rattle.cjc_card_semantics.specs.Bytecode.Renaming.{keys}
use Rattle.cjc_card_semantics.specs.Bytecode.Machine
use Rattle.cjc_ncode.specs.ByLabel.{Named, by_label, shown_slot}
use Rattle.cjc_jvm_semantics.specs.Effects.{Store}

-- the arrays and objects of narrow code
abbrev pub Heap : Type 0
Heap = List (HeapObject (List ℕ) MemberId)

-- its arrays, objects and static cells
abbrev pub NMemory : Type 0
NMemory = Memory (List ℕ) MemberId (List (Slot MemberId))

-- ---- cells

-- what is known of a cell
pub data Kind : Type 0 where
  -- a number in an interval
  Range : (numbers : Span) → Kind
  -- null, or an array or object of a type that passes a test
  Refers : (within : Shape (List ℕ) → Bool) → Kind
  -- nothing: no code reads it
  Free : Kind
  -- a cell of the stack by name that the narrow stack leaves out
  Away : (kind : Kind) → Kind

-- A word is the low word of its number, which lies in its interval; references are equal.
pub data Agrees (heap : Heap) : Kind → Value → Value → Type 0 where
  number : {s : Span} {x y : ℤ} → y ≡ low_word x → Holds s x → Agrees heap (Range s) (Num x) (Num y)
  null : {within : Shape (List ℕ) → Bool} → Agrees heap (Refers within) Null Null
  object : {within : Shape (List ℕ) → Bool} {k : ℕ} (thing : HeapObject (List ℕ) MemberId)
      → slice_get heap k ≡ Some thing → within (shape thing) ≡ true → Agrees heap (Refers within) (Obj k) (Obj k)
  free : {v w : Value} → Agrees heap Free v w

-- cell by cell, with the top first
pub data Stacks (heap : Heap) : List Kind → List Value → List Value → Type 0 where
  bottom : Stacks heap [] [] []
  cell : {k : Kind} {v w : Value} {ks : List Kind} {vs ws : List Value} → Agrees heap k v w → Stacks heap ks vs ws
      → Stacks heap (k ∷ ks) (v ∷ vs) (w ∷ ws)
  left_out : {k : Kind} {v w : Value} {ks : List Kind} {vs ws : List Value} → Agrees heap k v w → Stacks heap ks vs ws
      → Stacks heap (Away k ∷ ks) (v ∷ vs) ws

-- local by local; one that no code reads may hold anything, or nothing
pub data Locals (heap : Heap) : List Kind → List (Option Value) → List (Option Value) → Type 0 where
  no_more : Locals heap [] [] []
  local : {k : Kind} {v w : Value} {ks : List Kind} {vs ws : List (Option Value)} → Agrees heap k v w
      → Locals heap ks vs ws → Locals heap (k ∷ ks) (Some v ∷ vs) (Some w ∷ ws)
  unused : {v w : Option Value} {ks : List Kind} {vs ws : List (Option Value)} → Locals heap ks vs ws
      → Locals heap (Free ∷ ks) (v ∷ vs) (w ∷ ws)

-- cells that are on both stacks: a number, a reference, or what no code reads
pub data OnBoth : List Kind → Type 0 where
  no_cell : OnBoth []
  a_range : {numbers : Span} {ks : List Kind} → OnBoth ks → OnBoth (Range numbers ∷ ks)
  a_reference : {within : Shape (List ℕ) → Bool} {ks : List Kind} → OnBoth ks → OnBoth (Refers within ∷ ks)
  an_unused : {ks : List Kind} → OnBoth ks → OnBoth (Free ∷ ks)

-- A reference that the narrow stack leaves out, on top or below one cell, is what narrow code has in its first local.
pub data Owns (words : List (Option Value)) : List Kind → List Value → Type 0 where
  all_there : {ks : List Kind} {vs : List Value} → OnBoth ks → Owns words ks vs
  on_top : {k : Kind} {v : Value} {ks : List Kind} {vs : List Value} → is_reference v ≡ true
      → slice_get words 0 ≡ Some (Some v) → OnBoth ks → Owns words (Away k ∷ ks) (v ∷ vs)
  below_top : {j k : Kind} {x v : Value} {ks : List Kind} {vs : List Value} → is_reference v ≡ true
      → slice_get words 0 ≡ Some (Some v) → OnBoth (j ∷ ks) → Owns words (j ∷ Away k ∷ ks) (x ∷ v ∷ vs)

-- ---- less is known

-- all that agrees by the first kind agrees by the second
pub data Wider : Kind → Kind → Type 0 where
  more_numbers : {s t : Span} → Within s t → Wider (Range s) (Range t)
  more_types : {within wider : Shape (List ℕ) → Bool} → ((kind : Shape (List ℕ)) → within kind ≡ true
      → wider kind ≡ true) → Wider (Refers within) (Refers wider)
  number_free : {s : Span} → Wider (Range s) Free
  reference_free : {within : Shape (List ℕ) → Bool} → Wider (Refers within) Free
  free_free : Wider Free Free
  away : {k j : Kind} → Wider k j → Wider (Away k) (Away j)

-- cell by cell
pub data AllWider : List Kind → List Kind → Type 0 where
  none_wider : AllWider [] []
  one_wider : {k j : Kind} {ks js : List Kind} → Wider k j → AllWider ks js → AllWider (k ∷ ks) (j ∷ js)

-- ---- heaps and static cells

-- the numbers of a boolean
abbrev pub boolean_range : Span
boolean_range = span (pos 0) (pos 1)

-- what a field or static cell of a type holds; it is the same on both sides
pub data CellFits (l : Named) (heap : Heap) : Sort → Value → Type 0 where
  a_boolean : {z : ℤ} → Holds boolean_range z → CellFits l heap Boolean (Num z)
  a_byte : {z : ℤ} → Holds byte_range z → CellFits l heap Byte (Num z)
  a_short : {z : ℤ} → Holds short_range z → CellFits l heap Short (Num z)
  an_int : {z : ℤ} → Holds full z → CellFits l heap Int (Num z)
  a_null : {kind : Shape (List ℕ)} → CellFits l heap (Reference kind) Null
  an_object : {kind : Shape (List ℕ)} {k : ℕ} (thing : HeapObject (List ℕ) MemberId) → slice_get heap k ≡ Some thing
      → l.is_of (shape thing) kind ≡ true → CellFits l heap (Reference kind) (Obj k)

-- each holds what its descriptor says
pub data SlotsFit (l : Named) (heap : Heap) : List (Slot MemberId) → Type 0 where
  no_slots : SlotsFit l heap []
  slot : {s : Slot MemberId} {slots : List (Slot MemberId)} → CellFits l heap (field_sort (let key = s.key in key.desc))
      s.value → SlotsFit l heap slots → SlotsFit l heap (s ∷ slots)

-- the numbers of an element
abbrev pub element_range : Element → Span
element_range Booleans = boolean_range
element_range Bytes = byte_range
element_range Shorts = short_range
element_range Ints = full

-- Objects of a class have these fields: those that the class has, or none, of an imported class, whose objects scripts
-- and exceptions make,
-- also where it is abstract.
pub data HasObjects (l : Named) (class : List ℕ) (fields : List MemberId) : Type 0 where
  made : l.fields class ≡ Some fields → HasObjects l class fields
  bare : fields ≡ [] → l.imported class ≡ Some class → HasObjects l class fields

-- Arrays are made of a class that narrow code has by its name, and which their descriptor names.
pub record HasArrays (l : Named) (class : List ℕ) : Type 0 where
  pub is_there : l.class_named class ≡ Some class
  pub is_named : shape_named (shape_name (OfReferences class)) ≡ Some (OfReferences class)

-- each item is of the array's element, and there are as many as an index of one word reaches; an object has the fields
-- of its
-- class
pub data ThingFits (l : Named) (heap : Heap) : HeapObject (List ℕ) MemberId → Type 0 where
  numbers : {element : Element} {items : List ℤ} → length items ≤ 32767 → All (Holds (element_range element)) items
      → ThingFits l heap (Numbers element items)
  references : {class : List ℕ} {items : List Value} → HasArrays l class → length items ≤ 32767
      → All (CellFits l heap (Reference (OfClass class))) items → ThingFits l heap (References class items)
  of_class : {class : List ℕ} {slots : List (Slot MemberId)} → HasObjects l class (keys slots) → SlotsFit l heap slots
      → ThingFits l heap (Object class slots)

-- a type of which something may be there: an array of numbers, or of a class that has arrays, or a class of which
-- objects are made
abbrev pub IsMadeOf : Named → Shape (List ℕ) → Type 0
IsMadeOf l (OfClass class) = (fields : List MemberId) × HasObjects l class fields
IsMadeOf l (OfNumbers element) = Unit {0}
IsMadeOf l (OfReferences class) = HasArrays l class

-- each array and object
abbrev pub HeapFits : Named → Heap → Type 0
HeapFits l heap = (k : ℕ) (thing : HeapObject (List ℕ) MemberId) → slice_get heap k ≡ Some thing
    → ThingFits l heap thing

-- an array or object of narrow code as the machine by name holds it, and a report shows it
abbrev pub shown : Named → HeapObject (List ℕ) MemberId → Thing
shown l thing = Machine.shown (by_label l) thing

-- The heap and the static cells by name are those of narrow code, as a report shows them, and are of sound types. The
-- static cells are those
-- of the first state.
pub record Stores (l : Named) (store : Store) (memory : NMemory) : Type 0 where
  pub heap : store.heap ≡ map (shown l) memory.heap
  pub statics : store.statics ≡ map shown_slot memory.statics
  pub heap_fits : HeapFits l memory.heap
  pub statics_fit : SlotsFit l memory.heap memory.statics
  pub cells : keys memory.statics ≡ keys (let m = l.memory in m.statics)
