-- Bytes of arrays, which are fewer than those of the arrays with their types and counts, and of items of one size.
use Rattle.std.proofs.Common.{◌≡◌, ℕ, ◌+◌, ◌*◌, ◌≤◌, List, [], ◌∷◌, length, arith}
use Rattle.std.specs.Prelude.{sum_by}
use Rattle.std.proofs.lemmas.List.Sums.{sum_by-cons}
use Rattle.cjc_capread.specs.declared.tree.ArrayInit.{ArrayInit}
use Rattle.cjc_check.specs.Complete.{array_size}
use Rattle.cjc_check.specs.Listed.{array_bytes}

pub bytes_fit : (arrays : List ArrayInit) → array_bytes arrays ≤ sum_by array_size arrays
bytes_fit [] = omega arith
bytes_fit (a ∷ arrays) =
    let h = bytes_fit arrays in
    let s = sum_by-cons array_size a arrays in
    let b = sum_by-cons (λ (x : ArrayInit). length x.values) a arrays in
    omega (arith, h, s, b)

pub two_each : (xs : List ℕ) → sum_by (λ x. 2) xs ≡ 2 * length xs
two_each [] = omega arith
two_each (x ∷ xs) =
    let h = two_each xs in
    let s = sum_by-cons (λ (x : ℕ). 2) x xs in
    omega (arith, h, s)
