-- Arrays of references, and what they hold.
use Rattle.std.specs.Prelude.{◌≡◌, ℕ, true, List, slice_get, slice_set, Some, All}
use Rattle.cjc_script.specs.declared.value.Value.{Value}
use Rattle.cjc_script.specs.declared.value.Value.TheVariants.{Num, Null, Obj}
use Rattle.cjc_script.specs.Sorts.{OfClass}
use Rattle.cjc_types.specs.declared.cell.Cell.{Cell}
use Rattle.cjc_card_semantics.specs.Bytecode.Effects.{HeapObject, Numbers, References, Object, Memory, Effect, Go}
use Rattle.cjc_card_semantics.specs.Bytecode.Effects.{Raise}
use Rattle.cjc_card_semantics.specs.Bytecode.Effects.{Toss, Invoke, Leave, Stick, with_thing}
use Rattle.cjc_card_semantics.specs.Machine.Loaded.{Loaded}
use Rattle.cjc_card_semantics.specs.Machine.Classes.{Class, Field}
use Rattle.cjc_card_semantics.specs.Machine.Operations.{Callee}
use Rattle.cjc_verify_proof.specs.Words.{AreWords, AreLocals}
use Rattle.cjc_verify_proof.specs.Heaps.{thing_is, object_is}

-- an element of an array of references to a class: null, or what is of the class
abbrev pub IsItem : Loaded → List (HeapObject Class Field) → Class → Value → Type 0
IsItem l heap class (Num z) = ⊥
IsItem l heap class Null = Unit {0}
IsItem l heap class (Obj k) = thing_is l (slice_get heap k) (Some (OfClass class)) ≡ true

-- an array of references holds such elements
abbrev pub HoldsItems : Loaded → List (HeapObject Class Field) → HeapObject Class Field → Type 0
HoldsItems l heap (Numbers element items) = Unit {0}
HoldsItems l heap (References class items) = All (IsItem l heap class) items
HoldsItems l heap (Object class slots) = Unit {0}

-- all arrays of references of a heap do
abbrev pub AreHeld : Loaded → List (HeapObject Class Field) → Type 0
AreHeld l heap = (k : ℕ) (thing : HeapObject Class Field) → slice_get heap k ≡ Some thing → HoldsItems l heap thing

-- An array of references is given another element, which is of its class.
pub record PutsReference (l : Loaded) {X : Type 0} (m after : Memory Class Field X) : Type 0 where
  pub array : ℕ
  pub class : Class
  pub items : List Value
  pub index : ℕ
  pub value : Value
  pub there : slice_get m.heap array ≡ Some (References class items)
  pub fits : IsItem l m.heap class value
  pub is : after ≡ with_thing m array (References class (slice_set items index value))

-- An instruction goes on to a place with a stack and locals of these cells, and an array of references is given another
-- element, or it raises.
abbrev pub Puts : {X : Type 0} → Loaded → (next : ℕ) (stack locals : List Cell) (m : Memory Class Field X)
    → Effect Class Field Callee X → Type 0
Puts l next s c m (Go at stack locals memory) = (at ≡ next) × (AreWords (object_is l m.heap) s stack
    × (AreLocals (object_is l m.heap) c locals × PutsReference l m memory))
Puts l next s c m (Raise fault) = Unit {0}
Puts l next s c m (Toss object) = ⊥
Puts l next s c m (Invoke method) = ⊥
Puts l next s c m (Leave words) = ⊥
Puts l next s c m Stick = ⊥
