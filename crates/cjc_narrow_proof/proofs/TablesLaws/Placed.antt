-- Where narrow code has what is written for an instruction, and where it goes on behind it.
use Rattle.std.proofs.Common.{◌≡◌, ℕ, zero, suc, ◌+◌, ◌<◌, ◌≤◌, refl, sym, ap, ◌∙◌, arith, Bool, true, false, List, []}
use Rattle.std.proofs.Common.{◌∷◌, ◌++◌, length}
use Rattle.std.specs.Prelude.{Option, Some, None, flat_map, nat_lt, slice_get, if◌then◌else◌}
use Rattle.std.proofs.lemmas.Bool.Decides.{nat_tests}
use Rattle.cjc_code.specs.declared.insn.JInsn.{JInsn}
use Rattle.cjc_ncode.specs.declared.narrow.NInsn.{NInsn}
use Rattle.cjc_ncode.specs.Written.{Resolution, written_for, reached, place_in}
use Rattle.cjc_narrow_proof.specs.Tables.Analysis.{Ascend}
use Rattle.cjc_bytes.proofs.Gets.{in_front, get_behind}
use Rattle.cjc_narrow.proofs.WrittenLaws.Order.{same_length_as}

-- ---- as much is written wherever targets lie

module _ (r : Resolution) where
  pub size_fixed : (f g : ℕ → ℕ) (i : JInsn) → length (written_for r f i) ≡ length (written_for r g i)
  size_fixed f g i = same_length_as r r f g (r.role i.at) i.op

  -- how much is written for an instruction
  abbrev pub size : JInsn → ℕ
  size i = length (written_for r (λ o. 0) i)

  abbrev part : JInsn → ℕ → ℕ
  part i o = if nat_lt i.at o then size i else 0

  part_before : (i : JInsn) (o : ℕ) → i.at < o → part i o ≡ size i
  part_before i o h = go (nat_lt i.at o) refl
    where
      go : (p : Bool) → nat_lt i.at o ≡ p → (if p then size i else 0) ≡ size i
      go true e = refl
      go false e = absurd (grind (arith, nat_tests, e, h))

  part_behind : (i : JInsn) (o : ℕ) → o ≤ i.at → part i o ≡ 0
  part_behind i o h = go (nat_lt i.at o) refl
    where
      go : (p : Bool) → nat_lt i.at o ≡ p → (if p then size i else 0) ≡ 0
      go false e = refl
      go true e = absurd (grind (arith, nat_tests, e, h))

  none_before : (kept : List JInsn) (o : ℕ) → ((k : ℕ) (i : JInsn) → slice_get kept k ≡ Some i → o ≤ i.at)
      → place_in r kept o ≡ 0
  none_before [] o h = refl
  none_before (i ∷ kept) o h = let first = part_behind i o (h 0 i refl) in let rest =
      none_before kept o (λ k j e. h (suc k) j e) in omega arith

-- ---- ascending instructions

pub ascend_tail : (i : JInsn) (insns : List JInsn) → Ascend (i ∷ insns) → Ascend insns
ascend_tail i insns up j k x y e f h = up (suc j) (suc k) x y e f (omega (arith, h))

ascend_first : (i : JInsn) (insns : List JInsn) → Ascend (i ∷ insns) → (k : ℕ) (y : JInsn) → slice_get insns k ≡ Some y
    → i.at < y.at
ascend_first i insns up k y e = up 0 (suc k) i y refl e (omega arith)

module _ {A : Type 0} where
  -- a reached instruction is one of all
  reached_from : (insns : List JInsn) (rows : List (Option A)) (k : ℕ) (i : JInsn) → slice_get (reached insns rows) k
      ≡ Some i → (n : ℕ) × (slice_get insns n ≡ Some i)
  reached_from [] rows k i e = cc
  reached_from (x ∷ insns) [] k i e = cc
  reached_from (x ∷ insns) (None ∷ rows) k i e = let h = reached_from insns rows k i e in (suc h.0, h.1)
  reached_from (x ∷ insns) (Some row ∷ rows) zero i e = (0, e)
  reached_from (x ∷ insns) (Some row ∷ rows) (suc k) i e = let h = reached_from insns rows k i e in (suc h.0, h.1)

  -- and one that has a row is reached
  pub reached_at : (insns : List JInsn) (rows : List (Option A)) (at : ℕ) (i : JInsn) (row : A)
      → slice_get insns at ≡ Some i → slice_get rows at ≡ Some (Some row) → (k : ℕ)
      × (slice_get (reached insns rows) k ≡ Some i)
  reached_at [] rows at i row e f = cc
  reached_at (x ∷ insns) [] at i row e f = cc
  reached_at (x ∷ insns) (None ∷ rows) zero i row e f = cc
  reached_at (x ∷ insns) (Some other ∷ rows) zero i row e f = (0, e)
  reached_at (x ∷ insns) (None ∷ rows) (suc at) i row e f = reached_at insns rows at i row e f
  reached_at (x ∷ insns) (Some other ∷ rows) (suc at) i row e f = let h = reached_at insns rows at i row e f
      in (suc h.0, h.1)

  module _ (r : Resolution) where
    none_of : (insns : List JInsn) (rows : List (Option A)) (o : ℕ) → ((k : ℕ) (i : JInsn) → slice_get insns k ≡ Some i
        → o ≤ i.at) → place_in r (reached insns rows) o ≡ 0
    none_of insns rows o h = none_before r (reached insns rows) o (λ k i e. let from = reached_from insns rows k i e
        in h from.0 i from.1)

    -- the first instruction's place is the first
    pub first_place : (insns : List JInsn) (rows : List (Option A)) → Ascend insns → (i : JInsn)
        → slice_get insns 0 ≡ Some i → place_in r (reached insns rows) i.at ≡ 0
    first_place insns rows up i e = none_of insns rows i.at (λ k y h. from_first k y h)
      where
        from_first : (k : ℕ) (y : JInsn) → slice_get insns k ≡ Some y → i.at ≤ y.at
        from_first zero y h = let same : i ≡ y = (let f : Some i ≡ Some y = sym e ∙ h in cc) in let at_same =
            ap (λ z. z.at) same in omega (arith, at_same)
        from_first (suc k) y h = let lt = up 0 (suc k) i y e h (omega arith) in omega (arith, lt)

    -- What is written for a reached instruction stands at the place of its offset.
    pub stands_at : (p : ℕ → ℕ) (insns : List JInsn) (rows : List (Option A)) → Ascend insns
        → (at : ℕ) (i : JInsn) (row : A) → slice_get insns at ≡ Some i → slice_get rows at ≡ Some (Some row)
        → (j : ℕ) (insn : NInsn) → slice_get (written_for r p i) j ≡ Some insn
        → slice_get (flat_map (written_for r p) (reached insns rows)) (place_in r (reached insns rows) i.at + j)
        ≡ Some insn
    stands_at p [] rows up at i row e f j insn is = cc
    stands_at p (x ∷ insns) [] up at i row e f j insn is = cc
    stands_at p (x ∷ insns) (None ∷ rows) up zero i row e f j insn is = cc
    stands_at p (x ∷ insns) (Some other ∷ rows) up zero i row e f j insn is =
        let same : x ≡ i = cc in
        let here : slice_get (written_for r p x) j ≡ Some insn = ap (λ y. slice_get (written_for r p y) j) same ∙ is in
        let first = part_behind r x i.at (let e : i.at ≡ x.at = ap (λ y. y.at) (sym same) in omega (arith, e)) in
        let rest = none_of insns rows i.at (λ k y g. (let lt = ascend_first x insns up k y g in let e : i.at
        ≡ x.at = ap (λ y. y.at) (sym same) in omega (arith, lt, e))) in
        let none : place_in r (x ∷ reached insns rows) i.at + j ≡ j = omega arith in
        ap (slice_get (written_for r p x ++ flat_map (written_for r p) (reached insns rows))) none
        ∙ in_front (written_for r p x) (flat_map (written_for r p) (reached insns rows)) j insn here
    stands_at p (x ∷ insns) (None ∷ rows) up (suc at) i row e f j insn is =
        stands_at p insns rows (ascend_tail x insns up) at i row e f j insn is
    stands_at p (x ∷ insns) (Some other ∷ rows) up (suc at) i row e f j insn is =
        let rest = stands_at p insns rows (ascend_tail x insns up) at i row e f j insn is in
        let first = part_before r x i.at (ascend_first x insns up at i e) in
        let long = size_fixed r p (λ o. 0) x in
        let there : place_in r (x ∷ reached insns rows) i.at + j ≡ length (written_for r p x) +
        (place_in r (reached insns rows) i.at + j) = omega arith in
        ap (slice_get (written_for r p x ++ flat_map (written_for r p) (reached insns rows))) there
        ∙ get_behind (written_for r p x) (flat_map (written_for r p) (reached insns rows))
        (place_in r (reached insns rows) i.at + j) ∙ rest

    -- What is written behind it begins at the place of the next instruction's offset, whether that is reached or not.
    pub next_at : (insns : List JInsn) (rows : List (Option A)) → Ascend insns → (at : ℕ) (i n : JInsn) (row : A)
        → slice_get insns at ≡ Some i → slice_get insns (suc at) ≡ Some n → slice_get rows at ≡ Some (Some row)
        → place_in r (reached insns rows) n.at ≡ place_in r (reached insns rows) i.at + size r i
    next_at [] rows up at i n row e g f = cc
    next_at (x ∷ insns) [] up at i n row e g f = cc
    next_at (x ∷ insns) (None ∷ rows) up zero i n row e g f = cc
    next_at (x ∷ insns) (Some other ∷ rows) up zero i n row e g f =
        let same : x ≡ i = cc in
        let at_same : i.at ≡ x.at = ap (λ y. y.at) (sym same) in
        let sizes : size r x ≡ size r i = ap (size r) same in
        let here = part_behind r x i.at (omega (arith, at_same)) in
        let behind = part_before r x n.at (ascend_first x insns up 0 n g) in
        let none = none_of insns rows i.at (λ k y h. (let lt = ascend_first x insns up k y h
        in omega (arith, lt, at_same))) in
        let none' = none_of insns rows n.at (λ k y h. from_first insns (ascend_tail x insns up) n g k y h) in
        omega (arith, sizes, here, behind, none, none')
      where
        from_first : (insns : List JInsn) → Ascend insns → (n : JInsn) → slice_get insns 0 ≡ Some n
            → (k : ℕ) (y : JInsn) → slice_get insns k ≡ Some y → n.at ≤ y.at
        from_first insns up n g zero y h = let same : n ≡ y = (let e : Some n ≡ Some y = sym g ∙ h in cc)
            in let at_same = ap (λ z. z.at) same in omega (arith, at_same)
        from_first insns up n g (suc k) y h = let lt = up 0 (suc k) n y g h (omega arith) in omega (arith, lt)
    next_at (x ∷ insns) (None ∷ rows) up (suc at) i n row e g f = next_at insns rows (ascend_tail x insns up) at i n row
        e g f
    next_at (x ∷ insns) (Some other ∷ rows) up (suc at) i n row e g f =
        let rest = next_at insns rows (ascend_tail x insns up) at i n row e g f in
        let here = part_before r x i.at (ascend_first x insns up at i e) in
        let behind = part_before r x n.at (ascend_first x insns up (suc at) n g) in
        omega arith
