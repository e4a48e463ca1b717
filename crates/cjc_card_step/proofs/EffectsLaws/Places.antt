-- What is put into a field or an element of an array that is there.
use Rattle.std.proofs.Common.{◌≡◌, ℕ, ℤ, refl, sym, ap, ◌∙◌, List, Bool}
use Rattle.std.specs.Prelude.{Option, Some, None, if◌then◌else◌, slice_get, slice_set}
use Rattle.cjc_card_semantics.specs.Script.declared.value.Value.{Value}
use Rattle.cjc_card_semantics.specs.Script.declared.value.Value.TheVariants.{Num, Null, Obj}
use Rattle.cjc_card_semantics.specs.Script.Sorts.{Element}
use Rattle.cjc_card_semantics.specs.Bytecode.Effects.{Slot, HeapObject, Numbers, References, Object, Stick, thing_of}
use Rattle.cjc_card_semantics.specs.Bytecode.Effects.{object_in, put_slot, same_kind, slot_of, slots_with, with_some}
use Rattle.cjc_card_semantics.specs.Machine.Loaded.{Loaded}
use Rattle.cjc_card_semantics.specs.Machine.Classes.{Class, Field, same_field}
use Rattle.cjc_card_semantics.specs.Machine.ByToken.{classes}
use Rattle.cjc_card_frame.specs.Objects.{number_put, reference_put, slot_put, with_number, with_reference, with_slot}
use Rattle.cjc_card_step.specs.Effects.Deeds.{EffectByToken, Heap}
use Rattle.cjc_card_step.specs.Effects.Looks.{field_item}

slot_puts : (l : Loaded) (o : Option Value) (v : Value) (effect : EffectByToken) → put_slot (classes l) o v effect
    ≡ with_some Stick o (λ old. if same_kind old v then effect else Stick)
slot_puts l None v effect = refl
slot_puts l (Some old) v effect = refl

-- a field that is put is one that is found, of the same kind
pub field_put : (l : Loaded) (heap : Heap) (r : Value) (f : Field) (v : Value) (go : ℕ → Class → List (Slot Field)
    → EffectByToken) → thing_of heap r (λ k. object_in (λ class slots. put_slot (classes l) (slot_of same_field slots f)
    v (go k class slots))) ≡ field_item heap r f (λ k class slots old. if same_kind old v then go k class slots
    else Stick)
field_put l heap (Num x) f v go = refl
field_put l heap Null f v go = refl
field_put l heap (Obj k) f v go = by (slice_get heap k)
  where
    by : (o : Option (HeapObject Class Field))
        → with_some Stick o (object_in (λ class slots. put_slot (classes l) (slot_of same_field slots f) v
        (go k class slots))) ≡ with_some Stick o (object_in (λ class slots. with_some Stick (slot_of same_field slots f)
        (λ old. if same_kind old v then go k class slots else Stick)))
    by None = refl
    by (Some (Numbers element items)) = refl
    by (Some (References class items)) = refl
    by (Some (Object class slots)) = slot_puts l (slot_of same_field slots f) v (go k class slots)

-- the heap after that
pub slot_is_put : (heap : Heap) (k : ℕ) (f : Field) (v : Value) (class : Class) (slots : List (Slot Field))
    → slice_get heap k ≡ Some (Object class slots)
    → slot_put heap k f v ≡ slice_set heap k (Object class (slots_with same_field slots f v))
slot_is_put heap k f v class slots at = ap (λ o. with_some heap o (λ thing. slice_set heap k (with_slot thing f v))) at

pub reference_is_put : (heap : Heap) (k n : ℕ) (v : Value) (class : Class) (items : List Value)
    → slice_get heap k ≡ Some (References class items) → reference_put heap k n v
    ≡ slice_set heap k (References class (slice_set items n v))
reference_is_put heap k n v class items at =
    ap (λ o. with_some heap o (λ thing. slice_set heap k (with_reference thing n v))) at

pub number_is_put : (heap : Heap) (k n : ℕ) (z : ℤ) (element : Element) (items : List ℤ)
    → slice_get heap k ≡ Some (Numbers element items) → number_put heap k n z
    ≡ slice_set heap k (Numbers element (slice_set items n z))
number_is_put heap k n z element items at =
    ap (λ o. with_some heap o (λ thing. slice_set heap k (with_number thing n z))) at
