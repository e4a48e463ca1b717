-- Places of offsets among what is written: how they compare with the length of all.
use Rattle.std.proofs.Common.{◌≡◌, ℕ, zero, suc, ◌+◌, ◌<◌, ◌≤◌, refl, ap, arith, Bool, true, false, List, [], ◌∷◌}
use Rattle.std.proofs.Common.{length}
use Rattle.std.specs.Prelude.{Option, Some, None, flat_map, nat_lt, slice_get, if◌then◌else◌}
use Rattle.std.proofs.lemmas.Bool.{ltb-true, ltb-false}
use Rattle.std.proofs.lemmas.List.{length-append}
use Rattle.cjc_code.specs.declared.insn.JInsn.{JInsn}
use Rattle.cjc_ncode.specs.Written.{Resolution, place_in, reached, written_for}
use Rattle.cjc_narrow.proofs.WrittenLaws.Order.{same_length_as}

-- an instruction that has a row is reached, and a reached one has a row
module _ {A : Type 0} where
  pub reached_at : (insns : List JInsn) (rows : List (Option A)) (at : ℕ) (i : JInsn) (row : A)
      → slice_get insns at ≡ Some i → slice_get rows at ≡ Some (Some row) → (k : ℕ)
      × (slice_get (reached insns rows) k ≡ Some i)
  reached_at [] rows at i row e f = cc
  reached_at (x ∷ insns) [] at i row e f = cc
  reached_at (x ∷ insns) (None ∷ rows) zero i row e f = cc
  reached_at (x ∷ insns) (Some other ∷ rows) zero i row e f = (0, e)
  reached_at (x ∷ insns) (None ∷ rows) (suc at) i row e f = reached_at insns rows at i row e f
  reached_at (x ∷ insns) (Some other ∷ rows) (suc at) i row e f = let h = reached_at insns rows at i row e f
      in (suc h.0, h.1)

  pub reached_from : (insns : List JInsn) (rows : List (Option A)) (k : ℕ) (i : JInsn)
      → slice_get (reached insns rows) k ≡ Some i → (at : ℕ) × (row : A) × (slice_get insns at ≡ Some i)
      × (slice_get rows at ≡ Some (Some row))
  reached_from [] rows k i e = cc
  reached_from (x ∷ insns) [] k i e = cc
  reached_from (x ∷ insns) (None ∷ rows) k i e = let h = reached_from insns rows k i e in (suc h.0, h.1, h.2, h.3)
  reached_from (x ∷ insns) (Some row ∷ rows) zero i e = (0, row, e, refl)
  reached_from (x ∷ insns) (Some row ∷ rows) (suc k) i e = let h = reached_from insns rows k i e
      in (suc h.0, h.1, h.2, h.3)

module _ (r : Resolution) where
  -- how much is written for an instruction
  abbrev pub size : JInsn → ℕ
  size i = length (written_for r (λ o. 0) i)

  -- and for all
  abbrev pub sizes : List JInsn → ℕ
  sizes [] = 0
  sizes (i ∷ kept) = size i + sizes kept

  abbrev part : JInsn → ℕ → ℕ
  part i o = if nat_lt i.at o then size i else 0

  part_low : (i : JInsn) (o : ℕ) → part i o ≤ size i
  part_low i o = go (nat_lt i.at o)
    where
      go : (p : Bool) → (if p then size i else 0) ≤ size i
      go true = omega arith
      go false = omega arith

  part_none : (i : JInsn) (o : ℕ) → o ≤ i.at → part i o ≡ 0
  part_none i o h = go (nat_lt i.at o) refl
    where
      go : (p : Bool) → nat_lt i.at o ≡ p → (if p then size i else 0) ≡ 0
      go false e = refl
      go true e = let lt = ltb-true i.at o e in absurd (omega (arith, lt, h))

  part_up : (i : JInsn) (a b : ℕ) → a ≤ b → part i a ≤ part i b
  part_up i a b h = go (nat_lt i.at a) refl (nat_lt i.at b) refl
    where
      go : (p : Bool) → nat_lt i.at a ≡ p → (q : Bool) → nat_lt i.at b ≡ q → (if p then size i else 0) ≤ (if q
          then size i else 0)
      go false e q f = omega arith
      go true e true f = omega arith
      go true e false f = let lt = ltb-true i.at a e in let le = ltb-false i.at b f in absurd (omega (arith, lt, le, h))

  pub place_low : (kept : List JInsn) (o : ℕ) → place_in r kept o ≤ sizes kept
  place_low [] o = omega arith
  place_low (i ∷ kept) o = let first = part_low i o in let rest = place_low kept o in omega (arith, first, rest)

  pub place_up : (kept : List JInsn) (a b : ℕ) → a ≤ b → place_in r kept a ≤ place_in r kept b
  place_up [] a b h = omega arith
  place_up (i ∷ kept) a b h = let first = part_up i a b h in let rest = place_up kept a b h
      in omega (arith, first, rest)

  -- what is written for an instruction at an offset or behind it is behind its place
  pub place_below : (kept : List JInsn) (o k : ℕ) (i : JInsn) → slice_get kept k ≡ Some i → o ≤ i.at
      → place_in r kept o + size i ≤ sizes kept
  place_below [] o k i e h = cc
  place_below (x ∷ kept) o zero i e h =
      let same : x ≡ i = cc in
      let at_same = ap (λ (y : JInsn). y.at) same in
      let size_same = ap size same in
      let first = part_none x o (omega (arith, at_same, h)) in
      let rest = place_low kept o in
      omega (arith, first, rest, size_same)
  place_below (x ∷ kept) o (suc k) i e h =
      let first = part_low x o in
      let rest = place_below kept o k i e h in
      omega (arith, first, rest)

  -- something is written for an instruction between two offsets with different places
  pub between : (kept : List JInsn) (a b : ℕ) → place_in r kept a < place_in r kept b → (k : ℕ) × (i : JInsn)
      × (slice_get kept k ≡ Some i) × (a ≤ i.at) × (i.at < b)
  between [] a b h = absurd (omega (arith, h))
  between (x ∷ kept) a b h = go (λ lt. (let f = between kept a b lt in (suc f.0, f.1, f.2, f.3, f.4))) (nat_lt x.at a)
      refl (nat_lt x.at b) refl h
    where
      go : (place_in r kept a < place_in r kept b → (k : ℕ) × (i : JInsn) × (slice_get (x ∷ kept) k ≡ Some i)
          × (a ≤ i.at) × (i.at < b))
          → (p : Bool) → nat_lt x.at a ≡ p → (q : Bool) → nat_lt x.at b ≡ q
          → (if p then size x else 0) + place_in r kept a < (if q then size x else 0) + place_in r kept b
          → (k : ℕ) × (i : JInsn) × (slice_get (x ∷ kept) k ≡ Some i) × (a ≤ i.at) × (i.at < b)
      go later false e true f lt = (0, x, refl, ltb-false x.at a e, ltb-true x.at b f)
      go later true e true f lt = later (omega (arith, lt))
      go later true e false f lt = later (omega (arith, lt))
      go later false e false f lt = later (omega (arith, lt))

  -- as many instructions are written, wherever labels lie
  pub all_sizes : (p : ℕ → ℕ) (kept : List JInsn) → length (flat_map (written_for r p) kept) ≡ sizes kept
  all_sizes p [] = refl
  all_sizes p (i ∷ kept) =
      let both = length-append (written_for r p i) (flat_map (written_for r p) kept) in
      let first = same_length_as r r p (λ o. 0) (r.role i.at) i.op in
      let rest = all_sizes p kept in
      omega (arith, both, first, rest)
