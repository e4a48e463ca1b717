-- What is kept for fields, one field more.
use Rattle.std.proofs.Common.{◌≡◌, ℕ, suc, ◌+◌, ◌<◌, refl, sym, ap, ◌∙◌, subst, arith, Bool, true, false, cond, List}
use Rattle.std.proofs.Common.{[], ◌∷◌, ◌++◌, length, get_or, take}
use Rattle.std.specs.Prelude.{Option, Some, None, if◌then◌else◌}
use Rattle.std.specs.HashMap as hash
use Rattle.std.specs.HashMap.{HashMap}
use Rattle.std.specs.Map.{KeepsOthers}
use Rattle.cjc_world.specs.Bytes.declared.fault.MemberId.{MemberId}
use Rattle.cjc_jvm_step.specs.Script.declared.value.Value.{Value}
use Rattle.cjc_jvm_step.specs.Script.declared.value.Value.TheVariants.{Num, Obj}
use Rattle.cjc_world.specs.declared.image.ArrayCell.{ArrayCell}
use Rattle.cjc_world.specs.declared.image.ValueCell.{ValueCell}
use Rattle.cjc_jvm_semantics.specs.Effects.{is_same_field}
use Rattle.cjc_jvm_semantics.specs.OnePackage.{array_place, number_place}
use Rattle.std.proofs.lemmas.List.{take_more, length-take-le}
use Rattle.cjc_jvm_link.specs.Keys.{same_field-Decides, fields-equivalence}
use Rattle.cjc_jvm_link.specs.Starts.{either, start_of}

-- a field that is put is found, and others as before
pub noted_field : {S : Type 0} (id : MemberId) (m n : HashMap MemberId Value S) (w : Option Value)
    → hash.UpdatesBy is_same_field (is_same_field id) m n w
    → (other : MemberId) → hash.get_by (is_same_field other) n ≡ cond (is_same_field id other) w
    (hash.get_by (is_same_field other) m)
unfolding KeepsOthers
noted_field id m n w h other = by (is_same_field id other) refl
  where
    by : (b : Bool) → is_same_field id other ≡ b → hash.get_by (is_same_field other) n
        ≡ cond b w (hash.get_by (is_same_field other) m)
    by true e = subst (λ z. hash.get_by (is_same_field z) n ≡ w) ((same_field-Decides id other).0 e) h.1
    by false e = h.3 (is_same_field other)
        (λ x y f. ap (λ z. is_same_field z y) ((same_field-Decides other x).0 f))
        (λ k f. ap (λ z. is_same_field other z) (sym ((same_field-Decides id k).0 f)) ∙ fields-equivalence.symm other id
        ∙ e)

pub either_none : (o : Option Value) → either o None ≡ o
either_none None = refl
either_none (Some v) = refl

pub either_assoc : (a b c : Option Value) → either (either a b) c ≡ either a (either b c)
either_assoc None b c = refl
either_assoc (Some v) b c = refl

-- a field that has a value keeps it
pub kept_field : (id x : MemberId) (get : MemberId → Option Value) (v new : Value) → Some v ≡ get id
    → get x ≡ either (get x) (if is_same_field id x then Some new else None)
kept_field id x get v new h = by (is_same_field id x) refl
  where
    by : (b : Bool) → is_same_field id x ≡ b → get x ≡ either (get x) (if b then Some new else None)
    by false e = sym (either_none (get x))
    by true e = let s : get x ≡ Some v = ap get (sym ((same_field-Decides id x).0 e)) ∙ sym h in s
        ∙ sym (ap (λ o. either o (Some new)) s)

-- a field that has none gets one
pub new_field : (id x : MemberId) (get : MemberId → Option Value) (new : Value) → None ≡ get id
    → cond (is_same_field id x) (Some new) (get x) ≡ either (get x) (if is_same_field id x then Some new else None)
new_field id x get new h = by (is_same_field id x) refl
  where
    by : (b : Bool) → is_same_field id x ≡ b → cond b (Some new) (get x) ≡ either (get x) (if b then Some new else None)
    by false e = sym (either_none (get x))
    by true e = let s : get x ≡ None = ap get (sym ((same_field-Decides id x).0 e)) ∙ sym h
        in sym (ap (λ o. either o (Some new)) s)

-- one array more
pub more_arrays : (k : ℕ) (arrays : List ArrayCell) (a : ArrayCell) (x : MemberId) → array_place k (arrays ++ a ∷ []) x
    ≡ either (array_place k arrays x) (if is_same_field a.field x then Some (Obj (k + length arrays)) else None)
more_arrays k [] a x = let e : k ≡ k + 0 = omega arith in ap (λ n. if is_same_field a.field x then Some (Obj n)
    else None) e
more_arrays k (b ∷ arrays) a x = by (is_same_field b.field x) (more_arrays (k + 1) arrays a x)
  where
    e : k + 1 + length arrays ≡ k + suc (length arrays)
    e = omega arith

    by : (t : Bool) → array_place (k + 1) (arrays ++ a ∷ []) x ≡ either (array_place (k + 1) arrays x)
        (if is_same_field a.field x then Some (Obj (k + 1 + length arrays)) else None)
        → (if t then Some (Obj k) else array_place (k + 1) (arrays ++ a ∷ []) x) ≡ either (if t then Some (Obj k)
        else array_place (k + 1) arrays x) (if is_same_field a.field x then Some (Obj (k + suc (length arrays)))
        else None)
    by true later = refl
    by false later = later ∙ ap (λ n. either (array_place (k + 1) arrays x) (if is_same_field a.field x
        then Some (Obj n) else None)) e

-- one number more
pub more_numbers : (vs : List ValueCell) (v : ValueCell) (x : MemberId) → number_place (vs ++ v ∷ []) x
    ≡ either (number_place vs x) (if is_same_field v.field x then Some (Num v.value) else None)
more_numbers [] v x = refl
more_numbers (u ∷ vs) v x = by (is_same_field u.field x) (more_numbers vs v x)
  where
    by : (t : Bool) → number_place (vs ++ v ∷ []) x ≡ either (number_place vs x) (if is_same_field v.field x
        then Some (Num v.value) else None) → (if t then Some (Num u.value) else number_place (vs ++ v ∷ []) x)
        ≡ either (if t then Some (Num u.value) else number_place vs x) (if is_same_field v.field x
        then Some (Num v.value) else None)
    by true later = refl
    by false later = later

-- ---- a walk over arrays, and over numbers behind them

pub arrays_step : (arrays : List ArrayCell) (i : ℕ) (a : ArrayCell) (x : MemberId) (get : Option Value)
    → i < length arrays → a ≡ get_or arrays i a → get ≡ start_of (take i arrays) [] x
    → either get (if is_same_field a.field x then Some (Obj i) else None) ≡ start_of (take (i + 1) arrays) [] x
arrays_step arrays i a x get h is e =
    ap (λ o. either o (if is_same_field a.field x then Some (Obj i) else None)) (e
    ∙ either_none (array_place 0 (take i arrays) x))
    ∙ ap (λ n. either (array_place 0 (take i arrays) x) (if is_same_field a.field x then Some (Obj n) else None))
    (sym n)
    ∙ sym (more_arrays 0 (take i arrays) a x)
    ∙ ap (λ ys. array_place 0 ys x) (ap (λ y. take i arrays ++ y ∷ []) is ∙ sym (take_more arrays i a h))
    ∙ sym (either_none (array_place 0 (take (i + 1) arrays) x))
  where
    n : 0 + length (take i arrays) ≡ i
    n = let l : length (take i arrays) ≡ i = length-take-le i arrays (omega arith) in omega arith

pub numbers_step : (arrays : List ArrayCell) (vs : List ValueCell) (i : ℕ) (v : ValueCell) (x : MemberId)
    (get : Option Value) → i < length vs → v ≡ get_or vs i v → get ≡ start_of arrays (take i vs) x
    → either get (if is_same_field v.field x then Some (Num v.value) else None) ≡ start_of arrays (take (i + 1) vs) x
numbers_step arrays vs i v x get h is e =
    ap (λ o. either o (if is_same_field v.field x then Some (Num v.value) else None)) e
    ∙ either_assoc (array_place 0 arrays x) (number_place (take i vs) x) (if is_same_field v.field x
    then Some (Num v.value) else None)
    ∙ ap (either (array_place 0 arrays x)) (sym (more_numbers (take i vs) v x))
    ∙ ap (λ ys. either (array_place 0 arrays x) (number_place ys x)) (ap (λ y. take i vs ++ y ∷ []) is
    ∙ sym (take_more vs i v h))
