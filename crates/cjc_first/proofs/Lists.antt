-- Lists from a place on, and what is read there.
use Rattle.std.proofs.Common.{◌≡◌, ℕ, zero, suc, ◌+◌, ◌-◌, ◌<◌, ◌≤◌, refl, sym, ap, ◌∙◌, arith, true, List, [], ◌∷◌, ◌++◌, length, drop, zero-add, add-zero}
use Rattle.std.specs.Prelude.{Some, slice_get, nat_lt, nat_le, if◌then◌else◌}
use Rattle.std.proofs.lemmas.Bool.Decides.{nat_tests}
use Rattle.std.proofs.lemmas.List.{drop_at}

pub drop_drop : {A : Type 0} → (xs : List A) (n m : ℕ) → drop (n + m) xs ≡ drop m (drop n xs)
drop_drop xs zero m = ap (λ k. drop k xs) (zero-add m)
drop_drop [] (suc n) zero = ap (λ k. drop k []) (add-zero (suc n))
drop_drop [] (suc n) (suc m) = let e : suc n + suc m ≡ suc (n + suc m) = omega arith in ap (λ k. drop k []) e
drop_drop (x ∷ xs) (suc n) m = let e : suc n + m ≡ suc (n + m) = omega arith in ap (λ k. drop k (x ∷ xs)) e ∙ drop_drop xs n m

-- the item at the front of what begins at a place
pub get_here : {A : Type 0} → (xs : List A) (k : ℕ) (x : A) (rest : List A) → drop k xs ≡ x ∷ rest → slice_get xs k ≡ Some x
get_here [] zero x rest e = cc
get_here [] (suc k) x rest e = cc
get_here (y ∷ ys) zero x rest e = ap (λ l. slice_get l 0) e
get_here (y ∷ ys) (suc k) x rest e = get_here ys k x rest e

pub next_here : {A : Type 0} → (xs : List A) (k : ℕ) (x : A) (rest : List A) → drop k xs ≡ x ∷ rest → drop (k + 1) xs ≡ rest
next_here xs k x rest e = drop_drop xs k 1 ∙ ap (λ l. drop 1 l) e

pub le_test : (a b : ℕ) → a ≤ b → nat_le a b ≡ true
le_test a b h = grind (arith, nat_tests)

pub lt_test : (a b : ℕ) → a < b → nat_lt a b ≡ true
lt_test a b h = grind (arith, nat_tests)

-- bytes from a place on, where one byte stands before the first
pub from_next : (bytes : List ℕ) (place : ℕ) (front back : List ℕ) → 1 ≤ place → (if nat_le 1 place then drop (place - 1) bytes else []) ≡ front ++ back → (if nat_le 1 (place + length front) then drop (place + length front - 1) bytes else []) ≡ back
from_next bytes place front back some e =
    let here : drop (place - 1) bytes ≡ front ++ back = sym (ap (λ t. if t then drop (place - 1) bytes else []) (le_test 1 place some)) ∙ e in
    let at : place + length front - 1 ≡ (place - 1) + length front = omega arith in
    ap (λ t. if t then drop (place + length front - 1) bytes else []) (le_test 1 (place + length front) (omega arith))
    ∙ ap (λ k. drop k bytes) at ∙ drop_drop bytes (place - 1) (length front) ∙ ap (λ l. drop (length front) l) here ∙ drop_at front back (length front) refl
