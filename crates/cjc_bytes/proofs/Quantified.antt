-- What holds of each item of a list, or of one.
use Rattle.cjc_bytes.specs.Descriptor.{Part}
use Rattle.std.proofs.Common.{Bool, List, [], ap, arith, false, refl, suc, true, zero, ℕ, ◌++◌, ◌∷◌, ◌≡◌}
use Rattle.std.specs.List.{AllByRecursion, Contains, list_any}
use Rattle.std.specs.Prelude.{map, replicate, ◌||◌}

pub contains_later : {X : Type 0} (x y : X) (xs : List X) → Contains xs y → Contains (x ∷ xs) y
contains_later x y xs (k, lt, e) = (suc k, omega arith, e)

pub any_of_map : {A B : Type 0} (p : B → Bool) (f : A → B) (xs : List A) → list_any p (map f xs) ≡ list_any (λ x. p
    (f x)) xs
any_of_map p f [] = refl
any_of_map p f (x ∷ xs) = ap (λ q. p (f x) || q) (any_of_map p f xs)

pub any_front : {A : Type 0} (p : A → Bool) (xs ys : List A) → list_any p xs ≡ true → list_any p (xs ++ ys) ≡ true
any_front p [] ys e = cc
any_front p (x ∷ xs) ys e = go (p x) e (any_front p xs ys)
  where
    go : (b : Bool) → (b || list_any p xs) ≡ true → (list_any p xs ≡ true → list_any p (xs ++ ys) ≡ true)
        → (b || list_any p (xs ++ ys)) ≡ true
    go true f rest = refl
    go false f rest = rest f

pub any_right : {A : Type 0} (p : A → Bool) (xs ys : List A) → list_any p ys ≡ true → list_any p (xs ++ ys) ≡ true
any_right p [] ys e = e
any_right p (x ∷ xs) ys e = go (p x) (any_right p xs ys e)
  where
    go : (b : Bool) → list_any p (xs ++ ys) ≡ true → (b || list_any p (xs ++ ys)) ≡ true
    go true f = refl
    go false f = f

pub all_both : {A : Type 0} (P : A → Type 0) (xs ys : List A) → AllByRecursion P xs → AllByRecursion P ys
    → AllByRecursion P (xs ++ ys)
all_both P [] ys a b = b
all_both P (x ∷ xs) ys a b = (a.0, all_both P xs ys a.1 b)

pub each_weaker : {A : Type 0} (P Q : A → Type 0) (xs : List A) → ((x : A) → P x → Q x) → AllByRecursion P xs
    → AllByRecursion Q xs
each_weaker P Q [] f all = tt
each_weaker P Q (x ∷ xs) f all = (f x all.0, each_weaker P Q xs f all.1)

pub all_same : {A : Type 0} (P : A → Type 0) (n : ℕ) (x : A) → P x → AllByRecursion P (replicate n x)
all_same P zero x h = tt
all_same P (suc n) x h = (h, all_same P n x h)

pub any_both : {A : Type 0} (p : A → Bool) (xs ys : List A) → list_any p (xs ++ ys) ≡ (list_any p xs || list_any p ys)
any_both p [] ys = refl
any_both p (x ∷ xs) ys = by (p x) (any_both p xs ys)
  where
    by : (b : Bool) → list_any p (xs ++ ys) ≡ (list_any p xs || list_any p ys) → (b || list_any p (xs ++ ys))
        ≡ ((b || list_any p xs) || list_any p ys)
    by true e = refl
    by false e = e

pub last_false : (p : Part → Bool) (xs : List Part) (y : Part) → list_any p (xs ++ y ∷ []) ≡ false → p y ≡ false
last_false p [] y e = by (p y) e
  where
    by : (b : Bool) → (b || false) ≡ false → b ≡ false
    by true e = absurd cc
    by false e = refl
last_false p (x ∷ xs) y e = last_false p xs y (by (p x) e)
  where
    by : (b : Bool) → (b || list_any p (xs ++ y ∷ [])) ≡ false → list_any p (xs ++ y ∷ []) ≡ false
    by true e = absurd cc
    by false e = e
