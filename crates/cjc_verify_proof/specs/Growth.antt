-- Heaps that grow: what is there keeps its shape, and more may come.
use Rattle.std.specs.Prelude.{◌≡◌, ℕ, List, [], ◌∷◌, ◌++◌, slice_get, Some, replicate, pos}
use Rattle.cjc_script.specs.declared.value.Value.TheVariants.{Null}
use Rattle.cjc_script.specs.Sorts.{Element, Shape}
use Rattle.cjc_types.specs.declared.cell.Cell.{Cell}
use Rattle.cjc_card_semantics.specs.Bytecode.Effects.{HeapObject, Numbers, References, Memory, Effect, Go, Raise, Toss}
use Rattle.cjc_card_semantics.specs.Bytecode.Effects.{Invoke, Leave, Stick}
use Rattle.cjc_card_semantics.specs.Machine.Loaded.{Loaded}
use Rattle.cjc_card_semantics.specs.Machine.Classes.{Class, Field}
use Rattle.cjc_card_semantics.specs.Machine.Operations.{Callee}
use Rattle.cjc_verify_proof.specs.Words.{AreWords, AreLocals}
use Rattle.cjc_verify_proof.specs.Heaps.{object_is, shape_in}

-- each array and object that is there is there afterwards, and has its type
abbrev pub Extends : (heap after : List (HeapObject Class Field)) → Type 0
Extends heap after = (k : ℕ) (kind : Shape Class) → shape_in (slice_get heap k) ≡ Some kind
    → shape_in (slice_get after k) ≡ Some kind

-- an array of numbers that are 0
abbrev pub AreZeros : Element → HeapObject Class Field → Type 0
AreZeros element thing = (n : ℕ) × (thing ≡ Numbers element (replicate n (pos 0)))

-- an array of nulls
abbrev pub AreNulls : Class → HeapObject Class Field → Type 0
AreNulls class thing = (n : ℕ) × (thing ≡ References class (replicate n Null))

-- one thing more, which is so, and nothing else
abbrev pub IsWithOneMore : {X : Type 0} → (HeapObject Class Field → Type 0) → (m after : Memory Class Field X) → Type 0
IsWithOneMore P m after = (thing : HeapObject Class Field) × (P thing × (after ≡ record m {
  heap = m.heap ++ thing ∷ [];
}))

-- An instruction goes on to a place with a stack and locals of these cells and with one thing more on the heap, which
-- is so, or raises.
abbrev pub Adds : {X : Type 0} → Loaded → (next : ℕ) (stack locals : List Cell) (m : Memory Class Field X)
    → (HeapObject Class Field → Type 0) → Effect Class Field Callee X → Type 0
Adds l next s c m P (Go at stack locals memory) = (at ≡ next) × (AreWords (object_is l memory.heap) s stack
    × (AreLocals (object_is l memory.heap) c locals × IsWithOneMore P m memory))
Adds l next s c m P (Raise fault) = Unit {0}
Adds l next s c m P (Toss object) = ⊥
Adds l next s c m P (Invoke method) = ⊥
Adds l next s c m P (Leave words) = ⊥
Adds l next s c m P Stick = ⊥
