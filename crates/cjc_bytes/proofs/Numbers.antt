-- Numbers.
use Rattle.cjc_bytes.specs.Breaks.{at}
use Rattle.cjc_bytes.specs.Descriptor.{is_name_byte}
use Rattle.std.proofs.Common.{Bool, List, None, Some, [], ap, arith, cond, false, inl, inr, length, nat_eq, not, refl}
use Rattle.std.proofs.Common.{replicate, rules, suc, true, zero, ℕ, ⊎_elim, ◌%◌, ◌*◌, ◌++◌, ◌+◌, ◌/◌, ◌<◌, ◌∷◌, ◌≡◌}
use Rattle.std.proofs.Common.{◌≤◌}
use Rattle.std.proofs.lemmas.Bool.{cases_lt}
use Rattle.std.proofs.lemmas.Bool.Decides.{nat_tests}
use Rattle.std.proofs.lemmas.Grind.{common_steps}
use Rattle.std.specs.List.{range_with_len}
use Rattle.std.specs.Prelude.{if◌then◌else◌, nat_le, nat_lt, ◌==◌, ◌⊎◌}

pub passed_at : (b : Bool) (m n : ℕ) → cond b (Some m) None ≡ Some n → (b ≡ true) × (m ≡ n)
passed_at true m n e = (refl, cc)
passed_at false m n e = absurd cc

pub same_number : (c : ℕ) → nat_eq c c ≡ true
same_number c = search rules

pub range_from_zero : (n : ℕ) → range_with_len 0 (n + 1) ≡ range_with_len 0 n ++ n ∷ []
range_from_zero n = let next : n + 1 ≡ suc n = omega arith in rw next (go 0 n n (omega arith))
  where
    go : (a n j : ℕ) → a + n ≡ j → range_with_len a (suc n) ≡ range_with_len a n ++ j ∷ []
    go a zero j e = let same : a ≡ j = omega (arith, e) in ap (λ (i : ℕ). i ∷ []) same
    go a (suc n) j e = ap (λ (xs : List ℕ). a ∷ xs) (go (a + 1) n j (omega (arith, e)))

pub two_back : (n : ℕ) → 256 * (n / 256) + n % 256 ≡ n
two_back n = omega arith

pub four_back : (n : ℕ) → 16777216 * (n / 16777216) + 65536 * (n / 65536 % 256) + 256 * (n / 256 % 256) + n % 256 ≡ n
four_back n = omega arith

pub like_number : (n : ℕ) → (n == n) ≡ true
like_number n = grind (arith, nat_tests)

pub same_place : (p q : ℕ) → (p ≡ q) ⊎ (p ≡ q → ⊥)
same_place zero zero = inl refl
same_place zero (suc q) = inr (λ e. cc)
same_place (suc p) zero = inr (λ e. cc)
same_place (suc p) (suc q) = ⊎_elim (λ e. inl (ap suc e)) (λ n. inr (λ e. n cc)) (same_place p q)

pub number_same : (n k : ℕ) → (n == k) ≡ true → n ≡ k
number_same n k e = grind (arith, nat_tests)

pub number_apart : (a b : ℕ) → (a == b) ≡ false → b ≡ a → ⊥
number_apart a b is e = let s : (a == b) ≡ true = grind (arith, nat_tests, e) in (cc)

pub number_more : (n l : ℕ) → nat_lt (1 + n) (suc l) ≡ nat_lt n l
number_more n l = grind arith

pub number_full : (k n : ℕ) → k ≡ suc n → replicate {A = ℕ} k 255 ≡ 255 ∷ replicate n 255
number_full k n e = ap (λ m. replicate {A = ℕ} m 255) e

pub is_first : (Told : ℕ → ℕ → Type 0) (place rule : ℕ) → ((k r : ℕ) → Told k r → k < place → ⊥)
    → ((k r : ℕ) → place ≡ k → Told k r → rule ≤ r) → (k r : ℕ) → Told k r → (place < k) ⊎ ((place ≡ k) × (rule ≤ r))
is_first Told place rule earlier level k r h =
    elim (cases_lt place k) [
      | inl lt ↦ inl lt
      | inr le ↦ elim (cases_lt k place) [
        | inl lt ↦ absurd (earlier k r h lt)
        | inr ge ↦ let same : place ≡ k = omega (arith, le, ge) in inr (same, level k r same h)
      ]
    ]

pub at_most : (a b : ℕ) → a ≤ b → nat_le a b ≡ true
at_most a b h = grind (arith, nat_tests)

pub some_same : (n k : ℕ) → Some n ≡ Some k → n ≡ k
some_same n k is = cc

pub number_same_number : (a b : ℕ) → a ≡ b → (a == b) ≡ true
number_same_number a b e = grind (arith, nat_tests, e)

pub other_number : (n k : ℕ) → (n ≡ k → ⊥) → (n == k) ≡ false
other_number n k is = grind (arith, common_steps)

pub none_behind : (n : ℕ) → n ≡ n + 0
none_behind n = omega arith

pub length_replicated : {A : Type 0} (n : ℕ) (x : A) → length (replicate n x) ≡ n
length_replicated zero x = refl
length_replicated (suc n) x = ap suc (length_replicated n x)

pub number_below : (a b : ℕ) → nat_lt a b ≡ true → a < b
number_below a b e = grind (arith, nat_tests)

pub other_way : (m n : ℕ) → (m == n) ≡ false → (n == m) ≡ false
other_way m n e = grind (arith, nat_tests, e)

pub first_byte : (b : ℕ) → is_name_byte b ≡ true → (b == 91) ≡ false
first_byte b e = by (b == 46) (b == 59) (b == 91) e
  where
    by : (x y z : Bool) → (if x then false else if y then false else if z then false else if b == 47 then false
        else true) ≡ true → z ≡ false
    by x y false e = refl
    by true y true e = absurd cc
    by false true true e = absurd cc
    by false false true e = absurd cc

pub one_file : (b : Bool) → b ≡ false → ◌≡◌ {A = ℕ} (cond (not b) 1 0) 1
one_file false e = refl
one_file true e = cc

pub none_at : (b : Bool) (place : _) (rule : ℕ) → at b place rule ≡ [] → b ≡ false
none_at false place rule e = refl
none_at true place rule e = cc
