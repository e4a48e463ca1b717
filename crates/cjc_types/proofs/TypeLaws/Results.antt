-- What is found in turn: where the whole is, each part is.
use Rattle.std.proofs.Common.{◌≡◌, ℕ, zero, suc, List, [], ◌∷◌, Option, Some, None, Result, Ok, Err, slice_get, refl}
use Rattle.std.proofs.Common.{ap, ◌∙◌}
use Rattle.cjc_bytes.specs.Found.{kept, each, ◌>>=◌}

pub bound : {A B : Type 0} (r : Result B ℕ) (f : B → Result A ℕ) (a : A) → r >>= f ≡ Ok a → (b : B) × (r ≡ Ok b)
    × (f b ≡ Ok a)
bound (Ok b) f a e = (b, refl, e)
bound (Err k) f a e = absurd cc

pub kept_is : {A : Type 0} (place : ℕ) (o : Option A) (a : A) → kept place o ≡ Ok a → o ≡ Some a
kept_is place (Some b) a e = cc
kept_is place None a e = absurd cc

pub each_from : {A B : Type 0} (p : A → Result B ℕ) (xs : List A) (ys : List B) → each p xs ≡ Ok ys → (k : ℕ) (y : B)
    → slice_get ys k ≡ Some y → (x : A) × (p x ≡ Ok y)
unfolding each
each_from p [] ys e k y at = let none : [] ≡ ys = cc in absurd (no_item ys none k y at)
  where
    no_item : {B : Type 0} (ys : List B) → [] ≡ ys → (k : ℕ) (y : B) → slice_get ys k ≡ Some y → ⊥
    no_item [] e k y at = cc
    no_item (z ∷ zs) e k y at = cc
each_from {A} {B} p (x ∷ xs) ys e k y at = go (p x) refl (each p xs) (each_from p xs) e
  where
    pick : (b : B) (bs : List B) → p x ≡ Ok b → ((j : ℕ) → slice_get bs j ≡ Some y → (w : A) × (p w ≡ Ok y))
        → b ∷ bs ≡ ys → (w : A) × (p w ≡ Ok y)
    pick b bs is rest same = at_place k (ap (λ (zs : List B). slice_get zs k) same ∙ at)
      where
        at_place : (j : ℕ) → slice_get (b ∷ bs) j ≡ Some y → (w : A) × (p w ≡ Ok y)
        at_place zero here = (x, is ∙ (let is_y : b ≡ y = cc in ap Ok is_y))
        at_place (suc j) here = rest j here

    go : (a : Result B ℕ) → p x ≡ a → (r : Result (List B) ℕ) → ((zs : List B) → r ≡ Ok zs → (j : ℕ) (z : B)
        → slice_get zs j ≡ Some z → (w : A) × (p w ≡ Ok z)) → (a >>= λ b. r >>= λ bs. Ok (b ∷ bs)) ≡ Ok ys → (w : A)
        × (p w ≡ Ok y)
    go (Err i) is r h f = absurd cc
    go (Ok b) is (Err i) h f = absurd cc
    go (Ok b) is (Ok bs) h f = pick b bs is (λ j here. h bs refl j y here) (let same : b ∷ bs ≡ ys = cc in same)
