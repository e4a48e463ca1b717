-- A table that is counted from a low number on.
use Rattle.std.proofs.Common.{◌≡◌, ℕ, zero, suc, ◌+◌, ◌*◌, ◌<◌, Bool, true, false, List, [], ◌∷◌, length, drop, refl}
use Rattle.std.proofs.Common.{sym, ap, ◌∙◌, arith, Some, None, ℤ, pos, ◌+ℤ◌, ◌<ℤ◌}
use Rattle.std.specs.Prelude.{slice_get, if◌then◌else◌}
use Rattle.std.specs.Int.RustNames.{int_le}
use Rattle.std.proofs.lemmas.Int.{ints}
use Rattle.cjc_card_semantics.specs.CapRead.Opcodes.{Signed2}
use Rattle.cjc_card_semantics.specs.CapRead.Decode.{operand, signed}
use Rattle.cjc_card_semantics.specs.Bytecode.Effects.{arm_of, with_some}
use Rattle.cjc_card_semantics.specs.Machine.Operations.{moved, ranged}
use Rattle.cjc_card_semantics.specs.CapRead.declared.decoder.table.Matches.TheVariants.{Counted}
use Rattle.cjc_card_semantics.specs.CapRead.Decoder.Decoded.{numbers}
use Rattle.cjc_card_frame.proofs.FetchLaws.Pairs.{value_is}
use Rattle.cjc_card_semantics.proofs.BytesIntegers.{le_true, le_false}

chosen : (t u : Bool) (p q : ℕ) → t ≡ true → u ≡ true → (if t then (if u then p else q) else q) ≡ p
chosen true true p q e f = refl
chosen true false p q e f = absurd cc
chosen false u p q e f = absurd cc

passed : (t u : Bool) (p q : ℕ) → t ≡ true → u ≡ false → (if t then (if u then p else q) else q) ≡ q
passed true false p q e f = refl
passed true true p q e f = absurd cc
passed false u p q e f = refl

before : (t u : Bool) (p q : ℕ) → t ≡ false → (if t then (if u then p else q) else q) ≡ q
before false u p q e = refl
before true u p q e = absurd cc

-- a number below the low one
pub below : (other at : ℕ) (low : ℤ) (ns : List ℤ) (x : ℤ) → x <ℤ low → arm_of other (ranged at low ns) x ≡ other
below other at low [] x h = refl
below other at low (far ∷ ns) x h =
    before (int_le low x) (int_le x low) (moved at far) (arm_of other (ranged at (low +ℤ pos 1) ns) x)
    (le_false low x h)
    ∙ below other at (low +ℤ pos 1) ns x (omega (arith, ints, h))

-- a number that is so far above the low one
pub above : (other at : ℕ) (low : ℤ) (ns : List ℤ) (x : ℤ) (n : ℕ) → x ≡ low +ℤ pos n
    → arm_of other (ranged at low ns) x ≡ with_some other (slice_get ns n) (λ far. moved at far)
above other at low [] x n e = refl
above other at low (far ∷ ns) x zero e =
    chosen (int_le low x) (int_le x low) (moved at far) (arm_of other (ranged at (low +ℤ pos 1) ns) x)
    (le_true low x (omega (arith, ints, e))) (le_true x low (omega (arith, ints, e)))
above other at low (far ∷ ns) x (suc n) e =
    passed (int_le low x) (int_le x low) (moved at far) (arm_of other (ranged at (low +ℤ pos 1) ns) x)
    (le_true low x (omega (arith, ints, e))) (le_false x low (omega (arith, ints, e)))
    ∙ above other at (low +ℤ pos 1) ns x n (omega (arith, ints, e))

two_more : (n k : ℕ) → k ≡ 2 * suc n → k ≡ suc (suc (2 * n))
two_more n k e = omega (arith, e)

-- the number in a place of the table's bytes
pub number_in : (bs : List ℕ) (n k : ℕ) (x : ℤ) (r : List ℕ) → k ≡ 2 * n → operand Signed2 (drop k bs)
    ≡ Some (record { value = x; rest = r }) → slice_get (numbers Counted bs) n ≡ Some x
unfolding numbers
number_in [] n k x r e h = empty k h
  where
    empty : (k : ℕ) → operand Signed2 (drop k []) ≡ Some (record { value = x; rest = r })
        → slice_get (numbers Counted []) n ≡ Some x
    empty zero h = absurd cc
    empty (suc k) h = absurd cc
number_in (a ∷ []) n zero x r e h = absurd cc
number_in (a ∷ []) n (suc zero) x r e h = absurd cc
number_in (a ∷ []) n (suc (suc k)) x r e h = absurd cc
number_in (a ∷ b ∷ bs) zero k x r e h =
    let z : k ≡ 0 = omega (arith, e) in
    ap (λ y. Some y) (value_is (signed 32768 (256 * a + b)) x bs r (ap (λ n. operand Signed2 (drop n (a ∷ b ∷ bs)))
    (sym z) ∙ h))
number_in (a ∷ b ∷ bs) (suc n) k x r e h =
    number_in bs n (2 * n) x r refl (ap (λ m. operand Signed2 (drop m (a ∷ b ∷ bs))) (sym (two_more n k e)) ∙ h)

pub none_in : (bs : List ℕ) (n : ℕ) → length bs < 2 * n + 2 → slice_get (numbers Counted bs) n ≡ None
unfolding numbers
none_in [] n h = refl
none_in (a ∷ []) n h = refl
none_in (a ∷ b ∷ bs) zero h = absurd (omega (arith, h))
none_in (a ∷ b ∷ bs) (suc n) h = none_in bs n (omega (arith, h))
