-- The slots of an object by their places.
use Rattle.std.proofs.Common.{◌≡◌, ℕ, suc, refl, ap, ◌∙◌, sym, List, [], ◌∷◌, map, Bool, true, false}
use Rattle.std.specs.Prelude.{Option, Some, None, option_map, slice_get, slice_set, if◌then◌else◌}
use Rattle.cjc_card_semantics.specs.Script.declared.value.Value.{Value}
use Rattle.cjc_card_semantics.specs.Bytecode.Effects.{Slot, slot_of, slots_with}
use Rattle.cjc_card_semantics.specs.Machine.Classes.{Field, same_field}
use Rattle.cjc_card_frame.specs.declared.heap.slots.Slot.{Slot as SlotData}
use Rattle.cjc_card_frame.specs.Objects.{place_in, slot_by}
use Rattle.cjc_card_semantics.proofs.BytesPlain.{the_same}

-- what is held under a field that is nowhere
pub none_held : (slots : List (Slot Field)) (f : Field) → None ≡ place_in slots f → slot_of same_field slots f ≡ None
none_held [] f e = refl
none_held (s ∷ slots) f e = by (same_field s.key f) (place_in slots f) (λ h. none_held slots f h) e
  where
    by : (t : Bool) (o : Option ℕ) → (None ≡ o → slot_of same_field slots f ≡ None)
        → None ≡ (if t then Some 0 else option_map suc o) → (if t then Some s.value else slot_of same_field slots f)
        ≡ None
    by true o rest h = absurd cc
    by false None rest h = rest refl
    by false (Some q) rest h = absurd cc

-- a field that is nowhere is not put
pub none_put : (slots : List (Slot Field)) (f : Field) (v : Value) → None ≡ place_in slots f
    → slots ≡ slots_with same_field slots f v
none_put [] f v e = refl
none_put (s ∷ slots) f v e = by (same_field s.key f) (place_in slots f) (λ h. none_put slots f v h) e
  where
    by : (t : Bool) (o : Option ℕ) → (None ≡ o → slots ≡ slots_with same_field slots f v)
        → None ≡ (if t then Some 0 else option_map suc o) → (s ∷ slots) ≡ (if t then record s { value = v } ∷ slots
        else s ∷ slots_with same_field slots f v)
    by true o rest h = absurd cc
    by false None rest h = ap (λ more. s ∷ more) (rest refl)
    by false (Some q) rest h = absurd cc

next_is : (p q : ℕ) → Some p ≡ Some (suc q) → p ≡ suc q
next_is p q e = cc

-- what is held under a field, by its place
pub held_at : (slots : List SlotData) (f : Field) (p : ℕ) (s : SlotData) → Some p ≡ place_in (map slot_by slots) f
    → slice_get slots p ≡ Some s → slot_of same_field (map slot_by slots) f ≡ Some s.value
held_at [] f p s e at = absurd cc
held_at (t ∷ slots) f p s e at = by (same_field (slot_by t).key f) (place_in (map slot_by slots) f)
    (λ q h k. held_at slots f q s h k) e
  where
    by : (same : Bool) (o : Option ℕ) → ((q : ℕ) → Some q ≡ o → slice_get slots q ≡ Some s
        → slot_of same_field (map slot_by slots) f ≡ Some s.value) → Some p ≡ (if same then Some 0
        else option_map suc o) → (if same then Some t.value else slot_of same_field (map slot_by slots) f)
        ≡ Some s.value
    by true o rest h =
        let first = the_same t s (ap (λ n. slice_get (t ∷ slots) n) (sym (the_same p 0 h)) ∙ at) in
        ap (λ (x : SlotData). Some x.value) first
    by false None rest h = absurd cc
    by false (Some q) rest h = rest q refl (ap (λ n. slice_get (t ∷ slots) n) (sym (next_is p q h)) ∙ at)

-- slots with another value under a field, by its place
pub put_at : (slots : List SlotData) (f : Field) (v : Value) (p : ℕ) (s : SlotData)
    → Some p ≡ place_in (map slot_by slots) f → slice_get slots p ≡ Some s
    → map slot_by (slice_set slots p (record s { value = v })) ≡ slots_with same_field (map slot_by slots) f v
put_at [] f v p s e at = absurd cc
put_at (t ∷ slots) f v p s e at = by (same_field (slot_by t).key f) (place_in (map slot_by slots) f)
    (λ q h k. put_at slots f v q s h k) e
  where
    by : (same : Bool) (o : Option ℕ) → ((q : ℕ) → Some q ≡ o → slice_get slots q ≡ Some s
        → map slot_by (slice_set slots q (record s { value = v })) ≡ slots_with same_field (map slot_by slots) f v)
        → Some p ≡ (if same then Some 0 else option_map suc o)
        → map slot_by (slice_set (t ∷ slots) p (record s { value = v })) ≡ (if same
        then record (slot_by t) { value = v } ∷ map slot_by slots else slot_by t
        ∷ slots_with same_field (map slot_by slots) f v)
    by true o rest h =
        let none = the_same p 0 h in
        let first = the_same t s (ap (λ n. slice_get (t ∷ slots) n) (sym none) ∙ at) in
        ap (λ n. map slot_by (slice_set (t ∷ slots) n (record s { value = v }))) none
        ∙ ap (λ (x : SlotData). record (slot_by x) { value = v } ∷ map slot_by slots) (sym first)
    by false None rest h = absurd cc
    by false (Some q) rest h =
        let next = next_is p q h in
        ap (λ n. map slot_by (slice_set (t ∷ slots) n (record s { value = v }))) next
        ∙ ap (λ more. slot_by t ∷ more) (rest q refl (ap (λ n. slice_get (t ∷ slots) n) (sym next) ∙ at))

-- a place is one of the slots
pub place_below : (slots : List SlotData) (f : Field) (p : ℕ) → Some p ≡ place_in (map slot_by slots) f → (s : SlotData)
    × (slice_get slots p ≡ Some s)
place_below [] f p e = absurd cc
place_below (t ∷ slots) f p e = by (same_field (slot_by t).key f) (place_in (map slot_by slots) f)
    (λ q h. place_below slots f q h) e
  where
    by : (same : Bool) (o : Option ℕ) → ((q : ℕ) → Some q ≡ o → (s : SlotData) × (slice_get slots q ≡ Some s))
        → Some p ≡ (if same then Some 0 else option_map suc o) → (s : SlotData) × (slice_get (t ∷ slots) p ≡ Some s)
    by true o rest h = (t, ap (λ n. slice_get (t ∷ slots) n) (the_same p 0 h))
    by false None rest h = absurd cc
    by false (Some q) rest h = let r = rest q refl in (r.0, ap (λ n. slice_get (t ∷ slots) n) (next_is p q h) ∙ r.1)
