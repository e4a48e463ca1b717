-- What instructions find in the heap, by the definition's steps.
use Rattle.std.specs.Prelude.{ℕ, ℤ, List, [], Option, Some, None, slice_get}
use Rattle.cjc_card_semantics.specs.Script.declared.value.Value.{Value}
use Rattle.cjc_card_semantics.specs.Script.Sorts.{Element}
use Rattle.cjc_card_semantics.specs.Bytecode.Effects.{Letter, Slot, HeapObject, Numbers, References, Object, Raise}
use Rattle.cjc_card_semantics.specs.Bytecode.Effects.{Stick, thing_of, references_in, numbers_in, object_in, item_at}
use Rattle.cjc_card_semantics.specs.Bytecode.Effects.{slot_of, with_some}
use Rattle.cjc_card_semantics.specs.Bytecode.Calculations.{IndexOutside}
use Rattle.cjc_card_semantics.specs.Machine.Classes.{Class, Field, same_field}
use Rattle.cjc_card_step.specs.Effects.Deeds.{EffectByToken, Heap}

-- the numbers, the references and the slots of what stands at a number
abbrev pub numbers_of : Option (HeapObject Class Field) → List ℤ
numbers_of (Some (Numbers element items)) = items
numbers_of thing = []

-- the elements of an array of references; none of anything else
abbrev pub references_of : Option (HeapObject Class Field) → List Value
references_of (Some (References class items)) = items
references_of thing = []

-- the fields of an object with their values; none of anything else
abbrev pub slots_of : Option (HeapObject Class Field) → List (Slot Field)
slots_of (Some (Object class slots)) = slots
slots_of thing = []

-- the element at an index of the array of references of a reference
abbrev pub reference_item : Heap → Value → ℤ → (ℕ → Class → List Value → ℕ → Value → EffectByToken) → EffectByToken
reference_item heap r i go = thing_of heap r (λ k. references_in (λ class items. item_at (Raise IndexOutside) items i
    (go k class items)))

-- the element at an index of the array of numbers of a reference
abbrev pub number_item : Letter → Heap → Value → ℤ → (ℕ → Element → List ℤ → ℕ → ℤ → EffectByToken) → EffectByToken
number_item letter heap r i go = thing_of heap r (λ k. numbers_in letter (λ element items. item_at (Raise IndexOutside)
    items i (go k element items)))

-- what the object of a reference holds under a field
abbrev pub field_item : Heap → Value → Field → (ℕ → Class → List (Slot Field) → Value → EffectByToken) → EffectByToken
field_item heap r f go = thing_of heap r (λ k. object_in (λ class slots. with_some Stick (slot_of same_field slots f)
    (go k class slots)))
