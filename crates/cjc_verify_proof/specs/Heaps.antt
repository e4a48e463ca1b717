-- Arrays of a heap as card types see them.
use Rattle.std.specs.Prelude.{◌≡◌, ℕ, Bool, true, false, List, [], ◌∷◌, Option, Some, slice_get, option_map, All, ℤ}
use Rattle.cjc_script.specs.Sorts.{Element, Booleans, Bytes, Shorts, Ints, Shape}
use Rattle.cjc_types.specs.declared.cell.Cell.{Cell}
use Rattle.cjc_types.specs.declared.cell.Cell.TheVariants.{Number, Unusable}
use Rattle.cjc_card_semantics.specs.Bytecode.Numbers.{is_word}
use Rattle.cjc_card_semantics.specs.Bytecode.Effects.{HeapObject, Numbers, References, Object, shape, Memory, Effect}
use Rattle.cjc_card_semantics.specs.Bytecode.Effects.{Go}
use Rattle.cjc_card_semantics.specs.Bytecode.Effects.{Raise, Toss, Invoke, Leave, Stick, Letter, Reference, Byte}
use Rattle.cjc_card_semantics.specs.Bytecode.Effects.{Short, Int}
use Rattle.cjc_card_semantics.specs.Machine.Loaded.{Loaded}
use Rattle.cjc_card_semantics.specs.Machine.Classes.{Class, Field, is_of}
use Rattle.cjc_card_semantics.specs.Machine.Operations.{Callee}
use Rattle.cjc_card_acts.specs.CardTypes.{shape_by}
use Rattle.cjc_verify_proof.specs.Words.{AreWords, AreLocals}

-- an array or object that is there is of a type that is there
abbrev pub thing_is : Loaded → Option (HeapObject Class Field) → Option (Shape Class) → Bool
thing_is l (Some thing) (Some kind) = is_of l (shape thing) kind
thing_is l thing kind = false

-- the array or object of a number is of a card type
abbrev pub object_is : Loaded → List (HeapObject Class Field) → (type : List ℕ) → (object : ℕ) → Bool
object_is l heap type k = thing_is l (slice_get heap k) (shape_by l type)

-- elements of an array of numbers: words, in an array of int any numbers
abbrev pub AreItems : Element → List ℤ → Type 0
AreItems Booleans items = All (λ z. is_word z ≡ true) items
AreItems Bytes items = All (λ z. is_word z ≡ true) items
AreItems Shorts items = All (λ z. is_word z ≡ true) items
AreItems Ints items = Unit {0}

-- an array of numbers holds such elements
abbrev pub IsFit : HeapObject Class Field → Type 0
IsFit (Numbers element items) = AreItems element items
IsFit (References class items) = Unit {0}
IsFit (Object class slots) = Unit {0}

-- all arrays of numbers of a heap do
abbrev pub AreFit : List (HeapObject Class Field) → Type 0
AreFit heap = (k : ℕ) (thing : HeapObject Class Field) → slice_get heap k ≡ Some thing → IsFit thing

-- the shape of what is there
abbrev pub shape_in : Option (HeapObject Class Field) → Option (Shape Class)
shape_in o = option_map shape o

-- a heap whose places keep their shapes
abbrev pub Keeps : (heap after : List (HeapObject Class Field)) → Type 0
Keeps heap after = (k : ℕ) → shape_in (slice_get heap k) ≡ shape_in (slice_get after k)

-- the cells of an element of a letter, where nothing is known of a reference
abbrev pub item_cells : Letter → List Cell
item_cells Reference = Unusable ∷ []
item_cells Byte = Number ∷ []
item_cells Short = Number ∷ []
item_cells Int = Number ∷ Number ∷ []

-- An instruction goes on to a place with a stack and locals of these cells and this memory, or raises.
abbrev pub Onward : {X : Type 0} → Loaded → (next : ℕ) (stack locals : List Cell) (m : Memory Class Field X)
    → Effect Class Field Callee X → Type 0
Onward l next s c m (Go at stack locals memory) = (at ≡ next) × (AreWords (object_is l m.heap) s stack
    × (AreLocals (object_is l m.heap) c locals × (memory ≡ m)))
Onward l next s c m (Raise fault) = Unit {0}
Onward l next s c m (Toss object) = ⊥
Onward l next s c m (Invoke method) = ⊥
Onward l next s c m (Leave words) = ⊥
Onward l next s c m Stick = ⊥

-- An instruction goes on to a place with a stack and locals of these cells and a heap of the same shapes whose arrays
-- of numbers hold what they may, or raises.
abbrev pub Stored : {X : Type 0} → Loaded → (next : ℕ) (stack locals : List Cell) (m : Memory Class Field X)
    → Effect Class Field Callee X → Type 0
Stored l next s c m (Go at stack locals memory) = (at ≡ next) × (AreWords (object_is l m.heap) s stack
    × (AreLocals (object_is l m.heap) c locals × (AreFit memory.heap × (Keeps m.heap memory.heap
    × (memory.statics ≡ m.statics)))))
Stored l next s c m (Raise fault) = Unit {0}
Stored l next s c m (Toss object) = ⊥
Stored l next s c m (Invoke method) = ⊥
Stored l next s c m (Leave words) = ⊥
Stored l next s c m Stick = ⊥
