-- Bytes of arrays, which are fewer than those of the arrays with their types and counts, and of items of one size.
use Rattle.std.proofs.Common.{◌≡◌, ◌*◌, ◌≤◌, List, [], ◌∷◌, length, arith}
use Rattle.std.specs.Prelude.{sum_by}
use Rattle.std.proofs.lemmas.List.Sums.{sum_by-cons}
use Rattle.cjc_capread.specs.declared.tree.ArrayInit.{ArrayInit}
use Rattle.cjc_check_rules.specs.Complete.{array_size}
use Rattle.cjc_check_rules.specs.Listed.{array_bytes}

pub bytes_fit : (arrays : List ArrayInit) → array_bytes arrays ≤ sum_by array_size arrays
bytes_fit [] = omega arith
bytes_fit (a ∷ arrays) =
    let h = bytes_fit arrays in
    let s = sum_by-cons array_size a arrays in
    let b = sum_by-cons (λ (x : ArrayInit). length x.values) a arrays in
    omega (arith, h, s, b)

pub one_each : {A : Type 0} (xs : List A) → sum_by (λ x. 1) xs ≡ length xs
one_each [] = omega arith
one_each {A} (x ∷ xs) =
    let h = one_each xs in
    let s = sum_by-cons (λ (y : A). 1) x xs in
    omega (arith, h, s)

pub two_each : {A : Type 0} (xs : List A) → sum_by (λ x. 2) xs ≡ 2 * length xs
two_each [] = omega arith
two_each {A} (x ∷ xs) =
    let h = two_each xs in
    let s = sum_by-cons (λ (y : A). 2) x xs in
    omega (arith, h, s)

pub four_each : {A : Type 0} (xs : List A) → sum_by (λ x. 4) xs ≡ 4 * length xs
four_each [] = omega arith
four_each {A} (x ∷ xs) =
    let h = four_each xs in
    let s = sum_by-cons (λ (y : A). 4) x xs in
    omega (arith, h, s)

pub seven_each : {A : Type 0} (xs : List A) → sum_by (λ x. 7) xs ≡ 7 * length xs
seven_each [] = omega arith
seven_each {A} (x ∷ xs) =
    let h = seven_each xs in
    let s = sum_by-cons (λ (y : A). 7) x xs in
    omega (arith, h, s)

pub eight_each : {A : Type 0} (xs : List A) → sum_by (λ x. 8) xs ≡ 8 * length xs
eight_each [] = omega arith
eight_each {A} (x ∷ xs) =
    let h = eight_each xs in
    let s = sum_by-cons (λ (y : A). 8) x xs in
    omega (arith, h, s)

pub twelve_each : {A : Type 0} (xs : List A) → sum_by (λ x. 12) xs ≡ 12 * length xs
twelve_each [] = omega arith
twelve_each {A} (x ∷ xs) =
    let h = twelve_each xs in
    let s = sum_by-cons (λ (y : A). 12) x xs in
    omega (arith, h, s)
