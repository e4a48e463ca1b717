-- Scratch.
use Rattle.std.proofs.Common.{◌≡◌, ℕ, suc, ◌+◌, refl, sym, ap, subst, ◌∙◌, arith, Bool, true, false, List, [], ◌∷◌}
use Rattle.std.proofs.Common.{length, cond}
use Rattle.std.specs.Prelude.{◌&&◌, ◌||◌, not, Option, Some, None, if◌then◌else◌, map, option_map, position, nat_lt}
use Rattle.std.specs.List.{prefix_len}
use Rattle.cjc_bytes.proofs.Numbers.{number_more}

pub position-cons : {A : Type 0} (p : A → Bool) (x : A) (xs : List A) → position p (x ∷ xs) ≡ (if p x then Some 0
    else option_map suc (position p xs))
position-cons p x xs = by (p x)
  where
    n : ℕ
    n = prefix_len (λ y. not (p y)) xs

    at : (k l : ℕ) (b : Bool) → cond b (Some (1 + k)) None ≡ option_map suc (cond b (Some k) None)
    at k l true = let h : 1 + k ≡ suc k = omega arith in ap (λ q. Some q) h
    at k l false = refl

    by : (b : Bool) → cond (nat_lt (cond (not b) (1 + prefix_len (λ y. not (p y)) xs) 0) (suc (length xs)))
        (Some (cond (not b) (1 + prefix_len (λ y. not (p y)) xs) 0)) None ≡ (if b then Some 0
        else option_map suc (position p xs))
    by true = let lt : nat_lt 0 (suc (length xs)) ≡ true = grind arith in ap (λ b. cond b (Some 0) None) lt
    by false =
        ap (λ b. cond b (Some (1 + prefix_len (λ y. not (p y)) xs)) None) (number_more (prefix_len (λ y. not (p y)) xs)
        (length xs))
        ∙ at (prefix_len (λ y. not (p y)) xs) (length xs) (nat_lt (prefix_len (λ y. not (p y)) xs) (length xs))

