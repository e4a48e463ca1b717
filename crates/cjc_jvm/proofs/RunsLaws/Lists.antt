-- Lists that are copied item by item.
use Rattle.std.proofs.Common.{◌≡◌, ℕ, zero, suc, ◌+◌, ◌<◌, ◌≤◌, List, [], ◌∷◌, ◌++◌, length, take, get_or, refl, sym}
use Rattle.std.proofs.Common.{ap, ◌∙◌, add-one, arith}
use Rattle.std.proofs.lemmas.List.{take_all}
use Rattle.std.specs.Prelude.{Some, None, slice_get}
use Rattle.cjc_jvm_semantics.specs.LowerBytes.declared.fault.MemberId.{MemberId}
use Rattle.cjc_jvm_step.specs.Script.declared.value.Value.{Value}
use Rattle.cjc_jvm_step.specs.Script.declared.report.FieldValue.{FieldValue}
use Rattle.cjc_jvm_step.specs.Heap.Objects.{fields_with}

-- fields with their values, one more
one_more : (fresh : List FieldValue) (values : List Value) (i : ℕ) (d : FieldValue) (w : Value) → i < length fresh
    → length values ≡ length fresh → take (suc i) (fields_with fresh values) ≡ take i (fields_with fresh values)
    ++ record (get_or fresh i d) { value = get_or values i w } ∷ []
one_more [] values i d w h e = absurd (omega (arith, h))
one_more (f ∷ fs) [] i d w h e = absurd (omega (arith, e))
one_more (f ∷ fs) (v ∷ vs) zero d w h e = refl
one_more (f ∷ fs) (v ∷ vs) (suc i) d w h e = ap (λ r. record f { value = v }
    ∷ r) (one_more fs vs i d w (omega (arith, h)) (omega (arith, e)))

pub fields_more : (fresh : List FieldValue) (values : List Value) (i : ℕ) (d : FieldValue) (w : Value) (id : MemberId)
    (fields more : List FieldValue) → i < length fresh → length values ≡ length fresh
    → fields ≡ take i (fields_with fresh values) → id ≡ (get_or fresh i d).field → more ≡ fields ++ record {
      field = id;
      value = get_or values i w;
    } ∷ [] → more ≡ take (i + 1) (fields_with fresh values)
fields_more fresh values i d w id fields more h e begun named pushed =
    pushed
    ∙ ap (λ fs. fs ++ record { field = id; value = get_or values i w } ∷ []) begun
    ∙ ap (λ m. take i (fields_with fresh values) ++ record { field = m; value = get_or values i w } ∷ []) named
    ∙ sym (one_more fresh values i d w h e)
    ∙ sym (ap (λ n. take n (fields_with fresh values)) (add-one i))

length_with : (fresh : List FieldValue) (values : List Value) → length values ≡ length fresh
    → length (fields_with fresh values) ≡ length fresh
length_with [] values e = refl
length_with (f ∷ fs) [] e = absurd (omega (arith, e))
length_with (f ∷ fs) (v ∷ vs) e = ap suc (length_with fs vs (omega (arith, e)))

pub fields_all : (fresh : List FieldValue) (values : List Value) (i : ℕ) → length values ≡ length fresh
    → length fresh ≤ i → take i (fields_with fresh values) ≡ fields_with fresh values
fields_all fresh values i e h = take_all i (fields_with fresh values) (omega (arith, h, length_with fresh values e))

got_suc : {X : Type 0} (xs : List X) (k : ℕ) (x : X) → Some x ≡ slice_get xs k → take (suc k) xs ≡ take k xs ++ x ∷ []
got_suc [] k x h = absurd (cc h)
got_suc (y ∷ ys) zero x h = let e : x ≡ y = cc h in ap (λ z. z ∷ []) (sym e)
got_suc (y ∷ ys) (suc k) x h = ap (λ r. y ∷ r) (got_suc ys k x h)

-- no item is there
pub past : {X : Type 0} (xs : List X) (k : ℕ) → None ≡ slice_get xs k → length xs ≤ k
past [] k h = omega arith
past (y ∷ ys) zero h = absurd (cc h)
past (y ∷ ys) (suc k) h = omega (arith, past ys k h)
