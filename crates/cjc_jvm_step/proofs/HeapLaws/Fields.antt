-- The fields of an object by their places.
use Rattle.std.proofs.Common.{◌≡◌, ℕ, zero, suc, ◌<◌, refl, ap, ◌∙◌, sym, arith, List, [], ◌∷◌, length, map, Bool, true}
use Rattle.std.proofs.Common.{false}
use Rattle.std.proofs.lemmas.List.{length-map}
use Rattle.std.specs.Prelude.{Option, Some, None, option_map, option_and_then, slice_get, slice_set, if◌then◌else◌}
use Rattle.cjc_script.specs.Bytes.declared.fault.MemberId.{MemberId}
use Rattle.cjc_script.specs.declared.value.Value.{Value}
use Rattle.cjc_script.specs.declared.report.FieldValue.{FieldValue}
use Rattle.cjc_jvm_semantics.specs.Effects.{is_same_field, is_same_kind, value_in, values_with}
use Rattle.cjc_jvm_step.specs.Heap.Objects.{fields_after_put, fields_with, place_in}

one_further : {A : Type 0} (v : A) (vs : List A) (p : Option ℕ)
    → option_and_then (slice_get (v ∷ vs)) (option_map suc p) ≡ option_and_then (slice_get vs) p
one_further v vs None = refl
one_further v vs (Some n) = refl

value_by : (t : Bool) (v : Value) (vs : List Value) (rest : Option Value) (p : Option ℕ)
    → rest ≡ option_and_then (slice_get vs) p → (if t then Some v else rest) ≡ option_and_then (slice_get (v ∷ vs))
    (if t then Some 0 else option_map suc p)
value_by true v vs rest p e = refl
value_by false v vs rest p e = e ∙ sym (one_further v vs p)

-- what a field holds, by its place
pub value_place : (fs : List FieldValue) (vs : List Value) (id : MemberId) → length vs ≡ length fs
    → value_in (fields_with fs vs) id ≡ option_and_then (slice_get vs) (place_in fs id)
value_place [] vs id e = refl
value_place (f ∷ fs) [] id e = absurd (omega (arith, e))
value_place (f ∷ fs) (v ∷ vs) id e = value_by (is_same_field f.field id) v vs (value_in (fields_with fs vs) id)
    (place_in fs id) (value_place fs vs id (omega (arith, e)))

-- a place is one of the fields
pub place_below : (fs : List FieldValue) (id : MemberId) (p : ℕ) → place_in fs id ≡ Some p → p < length fs
place_below [] id p e = absurd (cc e)
place_below (f ∷ fs) id p e = place_by (is_same_field f.field id) (place_in fs id) (λ q h. place_below fs id q h) e
  where
    place_by : (t : Bool) (o : Option ℕ) → ((q : ℕ) → o ≡ Some q → q < length fs)
        → (if t then Some 0 else option_map suc o) ≡ Some p → p < length (f ∷ fs)
    place_by true o below h = let z : 0 ≡ p = cc h in omega (arith, z)
    place_by false None below h = absurd (cc h)
    place_by false (Some q) below h = let z : suc q ≡ p = cc h in let b = below q refl in omega (arith, z, b)

-- fields with another value in one, by its place
pub put_place : (fs : List FieldValue) (vs : List Value) (id : MemberId) (v : Value) (p : ℕ) → length vs ≡ length fs
    → place_in fs id ≡ Some p → values_with (fields_with fs vs) id v ≡ fields_with fs (slice_set vs p v)
put_place [] vs id v p e h = absurd (cc h)
put_place (f ∷ fs) [] id v p e h = absurd (omega (arith, e))
put_place (f ∷ fs) (w ∷ vs) id v p e h = put_by (is_same_field f.field id) (place_in fs id) (λ q k. put_place fs vs id v
    q (omega (arith, e)) k) h
  where
    put_by : (t : Bool) (o : Option ℕ) → ((q : ℕ) → o ≡ Some q → values_with (fields_with fs vs) id v
        ≡ fields_with fs (slice_set vs q v)) → (if t then Some 0 else option_map suc o) ≡ Some p
        → (if t then record f { value = v } ∷ fields_with fs vs else record f { value = w }
        ∷ values_with (fields_with fs vs) id v) ≡ fields_with (f ∷ fs) (slice_set (w ∷ vs) p v)
    put_by true o rest k = let z : 0 ≡ p = cc k in ap (λ n. fields_with (f ∷ fs) (slice_set (w ∷ vs) n v)) z
    put_by false None rest k = absurd (cc k)
    put_by false (Some q) rest k = let z : suc q ≡ p = cc k in ap (λ more. record f { value = w } ∷ more) (rest q refl)
        ∙ ap (λ n. fields_with (f ∷ fs) (slice_set (w ∷ vs) n v)) z

-- fields with what they hold
pub fields_own : (fs : List FieldValue) (vs : List Value) → vs ≡ map (λ f. f.value) fs → fields_with fs vs ≡ fs
fields_own fs vs e = ap (λ more. fields_with fs more) e ∙ own fs
  where
    own : (gs : List FieldValue) → fields_with gs (map (λ f. f.value) gs) ≡ gs
    own [] = refl
    own (g ∷ gs) = ap (λ more. g ∷ more) (own gs)

-- a value for each field
pub as_many : (fs : List FieldValue) (vs : List Value) → vs ≡ map (λ f. f.value) fs → length vs ≡ length fs
as_many fs vs e = ap length e ∙ length-map fs (λ f. f.value)

-- what a put into one makes of the fields, by its place
after_put_by : (fs : List FieldValue) (vs : List Value) (id : MemberId) (v : Value) → length vs ≡ length fs
    → fields_after_put (fields_with fs vs) id v ≡ option_and_then (λ old. if is_same_kind old v
    then Some (values_with (fields_with fs vs) id v) else None) (option_and_then (slice_get vs) (place_in fs id))
after_put_by fs vs id v e = ap (λ o. option_and_then (λ old. if is_same_kind old v
    then Some (values_with (fields_with fs vs) id v) else None) o) (value_place fs vs id e)

-- no field is this one
pub after_put_none : (fs : List FieldValue) (vs : List Value) (id : MemberId) (v : Value) → length vs ≡ length fs
    → place_in fs id ≡ None → fields_after_put (fields_with fs vs) id v ≡ None
after_put_none fs vs id v e h = after_put_by fs vs id v e ∙ ap (λ p. option_and_then (λ old. if is_same_kind old v
    then Some (values_with (fields_with fs vs) id v) else None) (option_and_then (slice_get vs) p)) h

-- it holds a value of the other kind
pub after_put_unlike : (fs : List FieldValue) (vs : List Value) (id : MemberId) (v old : Value) (p : ℕ)
    → length vs ≡ length fs → place_in fs id ≡ Some p → slice_get vs p ≡ Some old → is_same_kind old v ≡ false
    → fields_after_put (fields_with fs vs) id v ≡ None
after_put_unlike fs vs id v old p e h g k =
    after_put_by fs vs id v e
    ∙ ap (λ o. option_and_then (λ was. if is_same_kind was v then Some (values_with (fields_with fs vs) id v)
    else None) (option_and_then (slice_get vs) o)) h
    ∙ ap (λ o. option_and_then (λ was. if is_same_kind was v then Some (values_with (fields_with fs vs) id v)
    else None) o) g
    ∙ ap (λ t. if t then Some (values_with (fields_with fs vs) id v) else None) k

-- it holds a value of the same kind
pub after_put_like : (fs : List FieldValue) (vs : List Value) (id : MemberId) (v old : Value) (p : ℕ)
    → length vs ≡ length fs → place_in fs id ≡ Some p → slice_get vs p ≡ Some old → is_same_kind old v ≡ true
    → fields_after_put (fields_with fs vs) id v ≡ Some (fields_with fs (slice_set vs p v))
after_put_like fs vs id v old p e h g k =
    after_put_by fs vs id v e
    ∙ ap (λ o. option_and_then (λ was. if is_same_kind was v then Some (values_with (fields_with fs vs) id v)
    else None) (option_and_then (slice_get vs) o)) h
    ∙ ap (λ o. option_and_then (λ was. if is_same_kind was v then Some (values_with (fields_with fs vs) id v)
    else None) o) g
    ∙ ap (λ t. if t then Some (values_with (fields_with fs vs) id v) else None) k
    ∙ ap (λ fields. Some fields) (put_place fs vs id v p e h)
