-- Matches with their offsets, one after another.
use Rattle.std.proofs.Common.{◌≡◌, ℕ, ◌+◌, ◌-◌, ◌*◌, ◌≤◌, ◌^◌, Bool, true, false, List, [], ◌∷◌, length, drop}
use Rattle.std.proofs.Common.{sym, ap, ◌∙◌, arith, Option, Some, ℤ}
use Rattle.std.specs.Prelude.{◌&&◌, if◌then◌else◌}
use Rattle.std.specs.Int.RustNames.{int_le}
use Rattle.std.proofs.lemmas.Option.{same_Some}
use Rattle.cjc_card_semantics.specs.CapRead.Opcodes.{Signed2}
use Rattle.cjc_card_semantics.specs.CapRead.Decode.{First, operand, signed}
use Rattle.cjc_card_semantics.specs.Bytecode.Effects.{arm_of}
use Rattle.cjc_card_semantics.specs.Machine.Operations.{moved, paired}
use Rattle.cjc_card_semantics.specs.CapRead.declared.decoder.table.Matches.TheVariants.{Short, Int}
use Rattle.cjc_card_semantics.specs.CapRead.Decoder.Decoded.{numbers}
use Rattle.cjc_card_semantics.specs.CapRead.Decoder.Shapes.{entry_size, matches_of, match_of}

pub value_is : (x y : ℤ) (r s : List ℕ) → ◌≡◌ {A = Option First} (Some (record { value = x; rest = r }))
    (Some (record { value = y; rest = s })) → x ≡ y
value_is x y r s e = ap (λ (f : First). f.value) (same_Some _ _ e)

pub pair_is : (wide : Bool) (bs r s : List ℕ) (x far : ℤ) → entry_size (matches_of wide) ≤ length bs
    → operand (match_of wide) bs ≡ Some (record { value = x; rest = r })
    → operand Signed2 (drop (entry_size (matches_of wide) - 2) bs) ≡ Some (record { value = far; rest = s })
    → numbers (matches_of wide) bs ≡ x ∷ far ∷ numbers (matches_of wide) (drop (entry_size (matches_of wide)) bs)
unfolding numbers
pair_is false [] r s x far le e k = absurd (omega (arith, le))
pair_is false (a ∷ []) r s x far le e k = absurd (omega (arith, le))
pair_is false (a ∷ b ∷ []) r s x far le e k = absurd (omega (arith, le))
pair_is false (a ∷ b ∷ c ∷ []) r s x far le e k = absurd (omega (arith, le))
pair_is false (a ∷ b ∷ c ∷ d ∷ bs) r s x far le e k =
    ap (λ y. y ∷ signed 32768 (256 * c + d) ∷ numbers Short bs) (value_is (signed 32768 (256 * a + b)) x (c ∷ d ∷ bs) r
    e)
    ∙ ap (λ y. x ∷ y ∷ numbers Short bs) (value_is (signed 32768 (256 * c + d)) far bs s k)
pair_is true [] r s x far le e k = absurd (omega (arith, le))
pair_is true (a ∷ []) r s x far le e k = absurd (omega (arith, le))
pair_is true (a ∷ b ∷ []) r s x far le e k = absurd (omega (arith, le))
pair_is true (a ∷ b ∷ c ∷ []) r s x far le e k = absurd (omega (arith, le))
pair_is true (a ∷ b ∷ c ∷ d ∷ []) r s x far le e k = absurd (omega (arith, le))
pair_is true (a ∷ b ∷ c ∷ d ∷ f ∷ []) r s x far le e k = absurd (omega (arith, le))
pair_is true (a ∷ b ∷ c ∷ d ∷ f ∷ g ∷ bs) r s x far le e k =
    ap (λ y. y ∷ signed 32768 (256 * f + g) ∷ numbers Int bs)
    (value_is (signed (2 ^ 31) (16777216 * a + 65536 * b + 256 * c + d)) x (f ∷ g ∷ bs) r e)
    ∙ ap (λ y. x ∷ y ∷ numbers Int bs) (value_is (signed 32768 (256 * f + g)) far bs s k)

both : (a b : Bool) (p q : ℕ) (t : Bool) → (a && b) ≡ t → (if a then (if b then p else q) else q) ≡ (if t then p else q)
both true b p q t e = ap (λ u. if u then p else q) e
both false b p q t e = ap (λ u. if u then p else q) e

-- the first match decides, or the others
pub first_arm : (other at : ℕ) (value far : ℤ) (ns : List ℤ) (x : ℤ) (t : Bool) → t ≡ (int_le value x && int_le x value)
    → arm_of other (paired at (value ∷ far ∷ ns)) x ≡ (if t then moved at far else arm_of other (paired at ns) x)
first_arm other at value far ns x t e = both (int_le value x) (int_le x value) (moved at far)
    (arm_of other (paired at ns) x) t (sym e)
