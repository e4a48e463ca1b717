-- Options and results.
use Rattle.cjc_bytes.specs.Found.{kept, ◌>>=◌}
use Rattle.std.proofs.Common.{Bool, Err, None, Ok, OnOk, Option, Result, Some, false, inl, inr, option_and_then}
use Rattle.std.proofs.Common.{option_map, refl, sym, true, ℕ, ◌∙◌, ◌≡◌, ◌⊎◌}
use Rattle.std.specs.Prelude.{IfNone, IfOk, if◌then◌else◌, is_some}

pub option_mapped : {A B : Type 0} (f : A → B) (o : Option A) (y : B) → option_map f o ≡ Some y → (x : A) × (o ≡ Some x)
    × (f x ≡ y)
option_mapped f None y e = absurd cc
option_mapped f (Some x) y e = (x, refl, cc)

pub onward_ok : {A B : Type 0} (x : Result B ℕ) (f : B → Result A ℕ) (y : A) → (x >>= f) ≡ Ok y → (z : B) × (x ≡ Ok z)
    × (f z ≡ Ok y)
onward_ok (Ok z) f y e = (z, refl, e)
onward_ok (Err k) f y e = absurd cc

pub onward_err : {A B : Type 0} (x : Result B ℕ) (f : B → Result A ℕ) (k : ℕ) → (x >>= f) ≡ Err k → (x ≡ Err k)
    ⊎ ((z : B) × (x ≡ Ok z) × (f z ≡ Err k))
onward_err (Ok z) f k e = inr (z, refl, e)
onward_err (Err j) f k e = inl cc

pub kept_ok : {A : Type 0} (o : Option A) (place : ℕ) (a : A) → kept place o ≡ Ok a → o ≡ Some a
kept_ok (Some x) place a e = cc
kept_ok None place a e = absurd cc

pub not_both : {A : Type 0} (x : Result A ℕ) (a : A) (k : ℕ) → x ≡ Ok a → x ≡ Err k → ⊥
not_both x a k e f = cc

pub ok_or_err : {A : Type 0} (x : Result A ℕ) → ((a : A) × (x ≡ Ok a)) ⊎ ((k : ℕ) × (x ≡ Err k))
ok_or_err (Ok a) = inl (a, refl)
ok_or_err (Err k) = inr (k, refl)

pub kept_err : {A : Type 0} (o : Option A) (place k : ℕ) → kept place o ≡ Err k → k ≡ place
kept_err (Some x) place k e = absurd cc
kept_err None place k e = cc

pub then_some : {A B : Type 0} (f : A → Option B) (o : Option A) (b : B) → option_and_then f o ≡ Some b → (a : A) × (o
    ≡ Some a)
    × (f a ≡ Some b)
then_some f None b e = absurd cc
then_some f (Some a) b e = (a, refl, e)

pub some_shape : {A : Type 0} (o : Option A) → is_some o ≡ true → (a : A) × (o ≡ Some a)
some_shape (Some a) e = (a, refl)
some_shape None e = absurd cc

pub when_none : {X : Type 0} (o : Option X) (P : Type 0) → (o ≡ None → P) → IfNone o P
when_none None P p = p refl
when_none (Some x) P p = tt

pub option_had : {X : Type 0} (o : Option X) (P : Type 0) → o ≡ None → IfNone o P → P
option_had None P e p = p
option_had (Some x) P e p = absurd (cc)

pub mapped_2 : {X : Type 0} (o : Option X) (P Q : Type 0) → (P → Q) → IfNone o P → IfNone o Q
mapped_2 None P Q f p = f p
mapped_2 (Some x) P Q f p = tt

pub on_ok : {A E P Q : Type 0} (r : Result A E) → (P → Q) → OnOk r P → OnOk r Q
on_ok (Ok a) f p = f p
on_ok (Err e) f p = p

pub option_both : {T E : Type 0} (r : Result T E) (P : T → Type 0) (Q : Type 0) → IfOk r P → OnOk r Q → IfOk r (λ x. P x
    × Q)
option_both (Ok x) P Q p q = (p, q)
option_both (Err e) P Q p q = p

pub not_far : {A : Type 0} (b : Bool) (o : Option A) (a : A) → (if b then None else o) ≡ Some a → b ≡ false
not_far true o a e = absurd cc
not_far false o a e = refl

pub option_taken : (b : Bool) (o : Option ℕ) (k : ℕ) → (if b then o else None) ≡ Some k → (b ≡ true) × (o ≡ Some k)
option_taken true o k e = (refl, e)
option_taken false o k e = absurd (cc)

pub if_more : {A E : Type 0} {P Q : A → Type 0} → ((x : A) → P x → Q x) → (r : Result A E) → IfOk r P → IfOk r Q
if_more f (Ok x) p = f x p
if_more f (Err e) p = tt

pub some_same : {A : Type 0} {o : Option A} (x y : A) → o ≡ Some x → o ≡ Some y → x ≡ y
some_same x y e f = let g = sym e ∙ f in cc

pub where_true : {A : Type 0} (b : Bool) (o : Option A) (y : A) → (if b then o else None) ≡ Some y → o ≡ Some y
where_true true o y e = e
where_true false o y e = absurd cc
