-- What is written for an instruction stands behind what is written before its offset, and nothing else does.
use Rattle.std.proofs.Common.{◌≡◌, ℕ, zero, suc, ◌+◌, ◌<◌, ◌≤◌, refl, sym, ap, ◌∙◌, arith, Bool, true, false, List, []}
use Rattle.std.proofs.Common.{◌∷◌, length}
use Rattle.std.specs.Prelude.{Some, nat_le, nat_lt, slice_get, if◌then◌else◌}
use Rattle.std.proofs.lemmas.Bool.Decides.{nat_tests}
use Rattle.cjc_code.specs.declared.insn.JInsn.{JInsn}
use Rattle.cjc_ncode.specs.Written.{Resolution, written_for, place_in}
use Rattle.cjc_narrow_proof.specs.Selection.Calls.{IsWrittenAt}

module _ (r : Resolution) where
  -- how much is written for an instruction
  abbrev size : JInsn → ℕ
  size i = length (written_for r (λ o. 0) i)

  -- and what of it stands before an offset
  abbrev part : JInsn → ℕ → ℕ
  part i o = if nat_lt i.at o then size i else 0

  part_up : (i : JInsn) (a b : ℕ) → a ≤ b → part i a ≤ part i b
  part_up i a b h = go (nat_lt i.at a) refl (nat_lt i.at b) refl
    where
      go : (p : Bool) → nat_lt i.at a ≡ p → (q : Bool) → nat_lt i.at b ≡ q → (if p then size i else 0) ≤ (if q
          then size i else 0)
      go false e q f = omega arith
      go true e true f = omega arith
      go true e false f = absurd (grind (arith, nat_tests, e, f, h))

  part_whole : (i : JInsn) (o : ℕ) → i.at < o → part i o ≡ size i
  part_whole i o h = go (nat_lt i.at o) refl
    where
      go : (p : Bool) → nat_lt i.at o ≡ p → (if p then size i else 0) ≡ size i
      go true e = refl
      go false e = absurd (grind (arith, nat_tests, e, h))

  part_none : (i : JInsn) → part i i.at ≡ 0
  part_none i = go (nat_lt i.at i.at) refl
    where
      go : (p : Bool) → nat_lt i.at i.at ≡ p → (if p then size i else 0) ≡ 0
      go false e = refl
      go true e = absurd (grind (arith, nat_tests, e))

  place_up : (insns : List JInsn) (a b : ℕ) → a ≤ b → place_in r insns a ≤ place_in r insns b
  place_up [] a b h = omega arith
  place_up (i ∷ insns) a b h = let e = part_up i a b h in let f = place_up insns a b h in omega arith

  place_past : (insns : List JInsn) (k : ℕ) (i : JInsn) (o : ℕ) → slice_get insns k ≡ Some i → i.at < o
      → place_in r insns i.at + size i ≤ place_in r insns o
  place_past [] k i o e h = cc
  place_past (x ∷ insns) zero i o e h =
      let same : x ≡ i = cc in
      let nothing : part x i.at ≡ 0 = ap (λ y. part y i.at) same ∙ part_none i in
      let all : part x o ≡ size i = ap (λ y. part y o) same ∙ part_whole i o h in
      let up = place_up insns i.at o (omega arith) in
      omega arith
  place_past (x ∷ insns) (suc k) i o e h =
      let first = part_up x i.at o (omega arith) in
      let others = place_past insns k i o e h in
      omega arith

module _ (r : Resolution) (insns : List JInsn) (offset at : ℕ) (is : IsWrittenAt r insns offset at) where
  past : (o : ℕ) → offset < o → at < place_in r insns o
  past o h =
      let i = is.insn in
      let here = is.is_at in
      let same : place_in r insns i.at ≡ place_in r insns offset = ap (place_in r insns) here in
      let among = is.is_among in
      let stands = is.place in
      let far = place_past r insns is.number i o is.is_there (omega arith) in
      omega arith

  before : (o : ℕ) → o ≤ offset → place_in r insns o ≤ at
  before o h = let up = place_up r insns o offset h in let stands = is.place in omega arith

  -- An offset is at or before the instruction where its place is at or before what is written.
  pub from_side : (o : ℕ) → nat_le o offset ≡ nat_le (place_in r insns o) at
  from_side o = go (nat_le o offset) refl
    where
      go : (p : Bool) → nat_le o offset ≡ p → p ≡ nat_le (place_in r insns o) at
      go true e = let le : o ≤ offset = grind (arith, nat_tests, e) in let h = before o le
          in sym (grind (arith, nat_tests, h))
      go false e = let lt : offset < o = grind (arith, nat_tests, e) in let h = past o lt
          in sym (grind (arith, nat_tests, h))

  -- and behind it where its place is behind
  pub to_side : (o : ℕ) → nat_lt offset o ≡ nat_lt at (place_in r insns o)
  to_side o = go (nat_lt offset o) refl
    where
      go : (p : Bool) → nat_lt offset o ≡ p → p ≡ nat_lt at (place_in r insns o)
      go true e = let lt : offset < o = grind (arith, nat_tests, e) in let h = past o lt
          in sym (grind (arith, nat_tests, h))
      go false e = let le : o ≤ offset = grind (arith, nat_tests, e) in let h = before o le
          in sym (grind (arith, nat_tests, h))
