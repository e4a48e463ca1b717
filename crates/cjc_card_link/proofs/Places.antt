-- The first place where a test holds, counted from a number on.
use Rattle.std.proofs.Common.{◌≡◌, ℕ, suc, ◌+◌, List, ◌∷◌, refl, ap, Bool, true, false, arith, Option, Some, None}
use Rattle.std.specs.Prelude.{option_map, if◌then◌else◌}
use Rattle.cjc_card_semantics.specs.Machine.Classes.{or_else}
use Rattle.cjc_card_link.specs.Indices.{first_place}

-- the first place where a test holds, where the first item has a number
abbrev pub place_from : {A : Type 0} → (A → Bool) → (number : ℕ) → List A → Option ℕ
place_from test i xs = option_map (λ n. i + n) (first_place test xs)

moved : (i : ℕ) (o : Option ℕ) → option_map (λ n. i + n) (option_map suc o) ≡ option_map (λ n. (i + 1) + n) o
moved i None = refl
moved i (Some n) = ap (λ m. Some m) (omega arith)

by_test : (i : ℕ) (b : Bool) (rest : Option ℕ)
    → option_map (λ n. i + n) (if b then Some 0 else option_map suc rest) ≡ or_else (if b then Some i
    else None) (option_map (λ n. (i + 1) + n) rest)
by_test i true rest = ap (λ m. Some m) (omega arith)
by_test i false rest = moved i rest

pub place_step : {A : Type 0} (test : A → Bool) (i : ℕ) (x : A) (xs : List A) → place_from test i (x ∷ xs)
    ≡ or_else (if test x then Some i else None) (place_from test (i + 1) xs)
place_step test i x xs = by_test i (test x) (first_place test xs)

same : (o : Option ℕ) → option_map (λ n. 0 + n) o ≡ o
same None = refl
same (Some n) = ap (λ m. Some m) (omega arith)

pub place_first : {A : Type 0} (test : A → Bool) (xs : List A) → place_from test 0 xs ≡ first_place test xs
place_first test xs = same (first_place test xs)
