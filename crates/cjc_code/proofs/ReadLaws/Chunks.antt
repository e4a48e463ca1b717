-- What holds of each opcode of a table of 208, shown of sixteen at a time.
use Rattle.std.proofs.Common.{◌≡◌, ◌≤◌, ◌<◌, ◌+◌, ◌-◌, ℕ, zero, suc, Bool, true, false, refl, sym, subst, arith}
use Rattle.std.specs.Prelude.{◌==◌, nat_lt}
use Rattle.std.proofs.lemmas.Bool.{eqb-false, eqb-true, ltb-false, ltb-true}

module _ (Fits : ℕ → Type 0) where
  -- of so many from one on
  abbrev pub AllBelow : (base n : ℕ) → Type 0
  AllBelow base zero = Unit {0}
  AllBelow base (suc n) = Fits (base + n) × AllBelow base n

  one_below : (base n k : ℕ) → AllBelow base n → k < n → Fits (base + k)
  one_below base zero k h lt = absurd (omega (arith, lt))
  one_below base (suc n) k h lt = by (k == n) refl (one_below base n k h.1)
    where
      by : (b : Bool) → (k == n) ≡ b → (k < n → Fits (base + k)) → Fits (base + k)
      by true e rest = let same = eqb-true k n e in subst (λ j. Fits (base + j)) (sym same) h.0
      by false e rest = let off = eqb-false k n e in rest (omega (arith, lt, off))

  -- those below, and sixteen more
  pub join : (base m : ℕ) → (m < base → Fits m) → AllBelow base 16 → m < base + 16 → Fits m
  join base m lower h lt = by (nat_lt m base) refl
    where
      by : (b : Bool) → nat_lt m base ≡ b → Fits m
      by true e = lower (ltb-true m base e)
      by false e =
          let le = ltb-false m base e in
          let same : base + (m - base) ≡ m = omega (arith, le) in
          subst Fits same (one_below base 16 (m - base) h (omega (arith, le, lt)))
