-- The marks of places that a test marks.
use Rattle.std.proofs.Common.{◌≡◌, ◌<◌, ◌≤◌, ◌+◌, ◌⊎◌, ℕ, zero, suc, Bool, true, false, cond, List, [], ◌∷◌, ◌++◌, Some}
use Rattle.std.proofs.Common.{slice_get, get_or, length, filter, Contains, refl, sym, ◌∙◌, ap, subst, inl, inr, arith}
use Rattle.std.specs.List.{range_with_len}
use Rattle.std.proofs.lemmas.Bool.{cases_lt}
use Rattle.std.proofs.lemmas.Option.{slice_get_within}
use Rattle.cjc_fixpoint.specs.Working.Edges.{contains_head, contains_tail, contains_cons}
use Rattle.cjc_fixpoint.specs.Working.HandedLaws.{some_injective}
use Rattle.cjc_fixpoint.specs.Kept.{IsAscending, AreMarks}
use Rattle.cjc_fixpoint.specs.Marked.{marks_in}
use Rattle.cjc_fixpoint.specs.Working.SegmentLaws.{contains_none}

-- items that rise from a on, and stay below b
record Rise (a b : ℕ) (xs : List ℕ) : Type 0 where
  low : (k x : ℕ) → slice_get xs k ≡ Some x → a ≤ x
  high : (k x : ℕ) → slice_get xs k ≡ Some x → x < b
  ascending : IsAscending xs

no_item : (k x : ℕ) → slice_get [] k ≡ Some x → ⊥
no_item k x h = let lt = slice_get_within [] k x h in omega (arith, lt)

rise_none : (a b : ℕ) → Rise a b []
rise_none a b = record {
  low = λ k x h. absurd (no_item k x h);
  high = λ k x h. absurd (no_item k x h);
  ascending = λ j k x y h. absurd (no_item j x h);
}

rise_more : (a b : ℕ) (xs : List ℕ) → a < b → Rise (a + 1) b xs → Rise a b (a ∷ xs)
rise_more a b xs lt h = record { low = low; high = high; ascending = ascending }
  where
    low : (k x : ℕ) → slice_get (a ∷ xs) k ≡ Some x → a ≤ x
    low zero x is = let e = some_injective a x is in omega (arith, e)
    low (suc k) x is = let up = h.low k x is in omega (arith, up)

    high : (k x : ℕ) → slice_get (a ∷ xs) k ≡ Some x → x < b
    high zero x is = let e = some_injective a x is in omega (arith, e, lt)
    high (suc k) x is = h.high k x is

    ascending : IsAscending (a ∷ xs)
    ascending zero zero x y h1 h2 less = absurd (omega (arith, less))
    ascending zero (suc k) x y h1 h2 less = let e = some_injective a x h1 in let up = h.low k y h2
        in omega (arith, e, up)
    ascending (suc j) zero x y h1 h2 less = absurd (omega (arith, less))
    ascending (suc j) (suc k) x y h1 h2 less = h.ascending j k x y h1 h2 (omega (arith, less))

rise_less : (a b : ℕ) (xs : List ℕ) → Rise (a + 1) b xs → Rise a b xs
rise_less a b xs h = record {
  low = λ k x is. (let up = h.low k x is in omega (arith, up));
  high = h.high;
  ascending = h.ascending;
}

module _ (p : ℕ → Bool) where
  kept_rise : (a n b : ℕ) → a + n ≡ b → Rise a b (filter p (range_with_len a n))
  kept_rise a zero b e = rise_none a b
  kept_rise a (suc n) b e = go (p a) (kept_rise (a + 1) n b (omega (arith, e)))
    where
      go : (is : Bool) → Rise (a + 1) b (filter p (range_with_len (a + 1) n))
          → Rise a b (cond is (a ∷ filter p (range_with_len (a + 1) n)) (filter p (range_with_len (a + 1) n)))
      go true rest = rise_more a b (filter p (range_with_len (a + 1) n)) (omega (arith, e)) rest
      go false rest = rise_less a b (filter p (range_with_len (a + 1) n)) rest

  pub kept_has : (a n x : ℕ) → a ≤ x → x < a + n → p x ≡ true → Contains (filter p (range_with_len a n)) x
  kept_has a zero x le lt is = absurd (omega (arith, le, lt))
  kept_has a (suc n) x le lt is = go (p a) refl (cases_lt a x) (λ more. kept_has (a + 1) n x (omega (arith, more))
      (omega (arith, lt)) is)
    where
      go : (b : Bool) → p a ≡ b → (a < x) ⊎ (x ≤ a) → (a < x → Contains (filter p (range_with_len (a + 1) n)) x)
          → Contains (cond b (a ∷ filter p (range_with_len (a + 1) n)) (filter p (range_with_len (a + 1) n))) x
      go true e (inl more) rest = contains_tail a (filter p (range_with_len (a + 1) n)) x (rest more)
      go false e (inl more) rest = rest more
      go true e (inr same) rest = let one : a ≡ x = omega (arith, le, same)
          in subst (λ (y : ℕ). Contains (a ∷ filter p (range_with_len (a + 1) n)) y) one
          (contains_head a (filter p (range_with_len (a + 1) n)))
      go false e (inr same) rest = let one : a ≡ x = omega (arith, le, same) in let no = ap p one in absurd cc

  kept_only : (a n x : ℕ) → Contains (filter p (range_with_len a n)) x → p x ≡ true
  kept_only a zero x has = absurd (contains_none x has)
  kept_only a (suc n) x has = go (p a) refl has (kept_only (a + 1) n x)
    where
      go : (b : Bool) → p a ≡ b
          → Contains (cond b (a ∷ filter p (range_with_len (a + 1) n)) (filter p (range_with_len (a + 1) n))) x
          → (Contains (filter p (range_with_len (a + 1) n)) x → p x ≡ true) → p x ≡ true
      go false e has rest = rest has
      go true e has rest = elim (contains_cons a (filter p (range_with_len (a + 1) n)) x has) [
        | inl one ↦ ap p (sym one) ∙ e
        | inr more ↦ rest more
      ]

  kept_first : (n : ℕ) → 0 < n → p 0 ≡ true → slice_get (filter p (range_with_len 0 n)) 0 ≡ Some 0
  kept_first zero lt is = absurd (omega arith)
  kept_first (suc n) lt is = rw is refl

  -- the places that pass, where the first does
  pub kept_are : (n : ℕ) → (0 < n → p 0 ≡ true) → AreMarks n (filter p (range_with_len 0 n))
  kept_are n first = let rise = kept_rise 0 n n (omega arith) in record {
    ascending = rise.ascending;
    inside = rise.high;
    first = λ lt. kept_first n lt (first lt);
  }

-- the step of a loop that keeps the numbers that pass
pub kept_more : (p : ℕ → Bool) (a n j : ℕ) → a + n ≡ j → filter p (range_with_len a (suc n))
    ≡ filter p (range_with_len a n) ++ cond (p j) (j ∷ []) []
kept_more p a zero j e = let same : a ≡ j = omega (arith, e) in subst (λ (i : ℕ). cond (p a) (a ∷ []) []
    ≡ cond (p i) (i ∷ []) []) same refl
kept_more p a (suc n) j e = go (p a) (kept_more p (a + 1) n j (omega (arith, e)))
  where
    go : (b : Bool) → filter p (range_with_len (a + 1) (suc n)) ≡ filter p (range_with_len (a + 1) n)
        ++ cond (p j) (j ∷ []) [] → cond b (a ∷ filter p (range_with_len (a + 1) (suc n)))
        (filter p (range_with_len (a + 1) (suc n))) ≡ cond b (a ∷ filter p (range_with_len (a + 1) n))
        (filter p (range_with_len (a + 1) n)) ++ cond (p j) (j ∷ []) []
    go true rest = ap (λ (xs : List ℕ). a ∷ xs) rest
    go false rest = rest

pub kept_step : (p : ℕ → Bool) (i : ℕ) (marks more : List ℕ) (b : Bool) → marks ≡ filter p (range_with_len 0 i)
    → b ≡ p i → more ≡ marks ++ cond b (i ∷ []) [] → more ≡ filter p (range_with_len 0 (i + 1))
kept_step p i marks more b is is_b is_more =
    let step = kept_more p 0 i i (omega arith) in
    let next : i + 1 ≡ suc i = omega arith in
    rw next (is_more ∙ ap (λ (xs : List ℕ). xs ++ cond b (i ∷ []) []) is
    ∙ ap (λ (c : Bool). filter p (range_with_len 0 i) ++ cond c (i ∷ []) []) is_b ∙ sym step)

-- a marked place is among the marks
pub marks_have : (marked : List Bool) (at : ℕ) → at < length marked → get_or marked at false ≡ true
    → Contains (marks_in marked) at
marks_have marked at lt is = kept_has (λ at. get_or marked at false) 0 (length marked) at (omega arith) (omega (
  arith,
  lt,
)) is

pub marks_only : (marked : List Bool) (at : ℕ) → Contains (marks_in marked) at → get_or marked at false ≡ true
marks_only marked at has = kept_only (λ at. get_or marked at false) 0 (length marked) at has

pub marks_are : (marked : List Bool) → (0 < length marked → get_or marked 0 false ≡ true)
    → AreMarks (length marked) (marks_in marked)
marks_are marked first = kept_are (λ at. get_or marked at false) (length marked) first
