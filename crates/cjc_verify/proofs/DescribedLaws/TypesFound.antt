-- A type that is found by where it begins.
use Rattle.std.proofs.Common.{◌≡◌, ℕ, suc, ◌+◌, ◌==◌, Bool, true, false, List, [], ◌∷◌, cond, refl, ap, ◌∙◌, sym}
use Rattle.std.specs.Prelude.{Option, Some, None, if◌then◌else◌, option_and_then, option_map, position}
use Rattle.std.specs.Prelude.{slice_get}
use Rattle.std.specs.List.{find}
use Rattle.cjc_classes.proofs.TokensFacts.{position-cons}
use Rattle.cjc_check_rules.specs.Spots.{Placed, item_at, placed, starts}

-- ---- an item by its place

pub one_later : {A : Type 0} (x : A) (xs : List A) (o : Option ℕ) → option_and_then (slice_get xs) o
    ≡ option_and_then (slice_get (x ∷ xs)) (option_map suc o)
one_later x xs None = refl
one_later x xs (Some k) = refl

pub by_place : {A : Type 0} (size : A → ℕ) (from offset : ℕ) (xs : List A)
    → item_at (placed size from xs) offset ≡ option_and_then (slice_get xs) (position (λ n. n == offset)
    (starts size from xs))
unfolding placed
by_place size from offset [] = refl
by_place {A} size from offset (x ∷ xs) =
    by (from == offset) (by_place size (from + size x) offset xs)
    ∙ ap (λ (o : Option ℕ). option_and_then (slice_get (x ∷ xs)) o) (sym (position-cons (λ n. n == offset) from
    (starts size (from + size x) xs)))
  where
    by : (b : Bool) → item_at (placed size (from + size x) xs) offset ≡ option_and_then (slice_get xs)
        (position (λ n. n == offset) (starts size (from + size x) xs))
        → option_map (λ (p : Placed A). p.item) (cond b (Some (record { at = from; item = x })) (find (λ (p : Placed A).
        p.at == offset) (placed size (from + size x) xs)))
        ≡ option_and_then (slice_get (x ∷ xs)) (if b then Some 0 else option_map suc (position (λ n. n == offset)
        (starts size (from + size x) xs)))
    by true e = refl
    by false e = e ∙ one_later x xs (position (λ n. n == offset) (starts size (from + size x) xs))
