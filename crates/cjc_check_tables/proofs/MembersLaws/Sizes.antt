-- Sizes of items of one byte.
use Rattle.std.proofs.Common.{◌≡◌, List, [], ◌∷◌, length, arith}
use Rattle.std.specs.Prelude.{sum_by}
use Rattle.std.proofs.lemmas.List.Sums.{sum_by-cons}

pub one_each : {A : Type 0} (xs : List A) → sum_by (λ x. 1) xs ≡ length xs
one_each [] = omega arith
one_each {A} (x ∷ xs) =
    let h = one_each xs in
    let s = sum_by-cons (λ (y : A). 1) x xs in
    omega (arith, h, s)
