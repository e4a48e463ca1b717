-- What is cut to words and ints.
use Rattle.std.proofs.Common.{◌≡◌, ℕ, ◌-◌, ◌%◌, ◌<◌, sym, ap, ◌∙◌, arith, ℤ, pos, negsuc, ◌+ℤ◌, ◌*ℤ◌, ◌≤ℤ◌}
use Rattle.std.specs.Prelude.{FitsSigned}
use Rattle.std.specs.Int.{w16, w32, int_rem_euclid, cast_unsigned, int_bit_and, int_bit_or, int_bit_xor}
use Rattle.std.proofs.lemmas.Int.{ints, int_wrap-add_left}
use Rattle.cjc_card_semantics.specs.Range.Words.{wide, low_word}
use Rattle.cjc_card_semantics.proofs.RangeWords.{low_word-wide, low_word-and, low_word-or, low_word-xor}
use Rattle.cjc_card_semantics.proofs.RangeWords.{low_word_fits}
use Rattle.cjc_card_semantics.proofs.RangeWords.{low_word_fixed}
use Rattle.cjc_card_semantics.specs.Bytecode.Numbers.{spelt_by}
use Rattle.cjc_card_frame.specs.declared.opcodes.kinds.Operation.{Operation}
use Rattle.cjc_card_frame.specs.declared.opcodes.kinds.Operation.TheVariants as operations
use Rattle.cjc_card_frame.specs.Meanings.{exact}

-- ---- pairs of words

small : (n : ℕ) → n < 65536 → n % 65536 ≡ n
small n h = omega arith

-- what Euclid's remainder leaves of a word is its bits
rem_is : (z : ℤ) → FitsSigned w16 z → int_rem_euclid z (pos 65536) ≡ pos (cast_unsigned w16 z)
rem_is (pos n) f = let h = f.sfits in ap (λ k. pos k) (small n (omega (arith, ints)))
rem_is (negsuc n) f = let h = f.sfits in ap (λ k. pos (65535 - k)) (small n (omega (arith, ints))) ∙ omega (arith, ints)

pub spelt_is : (high low r : ℤ) → FitsSigned w16 low → r ≡ int_rem_euclid low (pos 65536)
    → wide (wide (high *ℤ pos 65536) +ℤ r) ≡ spelt_by high low
spelt_is high low r f e =
    int_wrap-add_left w32 (high *ℤ pos 65536) r ∙ ap (λ z. wide ((high *ℤ pos 65536) +ℤ z)) (e ∙ rem_is low f)

-- a number of 17 bits has 32
pub few_bits : (z : ℤ) → negsuc 65535 ≤ℤ z → z ≤ℤ pos 65535 → FitsSigned w32 z
few_bits (pos n) a b = record { sfits = omega (arith, ints) }
few_bits (negsuc n) a b = record { sfits = omega (arith, ints) }

-- ---- operations

-- the low word of a result on words, where the low words are enough
enough : (f g x y : ℤ) → g ≡ low_word f → low_word (wide f) ≡ low_word g
enough f g x y e = low_word-wide f ∙ sym (low_word_fixed (low_word f) (low_word_fits f)) ∙ ap (λ z. low_word z) (sym e)

-- the low word of an operation of 32 bits on words is the operation of 16 bits
pub exact_word : (op : Operation) (x y : ℤ) → FitsSigned w16 x → FitsSigned w16 y → FitsSigned w32 x → FitsSigned w32 y
    → low_word (wide (exact w32 op x y)) ≡ low_word (exact w16 op x y)
exact_word operations.Sum x y f g f' g' = low_word-wide _
exact_word operations.Difference x y f g f' g' = low_word-wide _
exact_word operations.Product x y f g f' g' = low_word-wide _
exact_word operations.ShiftLeft x y f g f' g' = low_word-wide _
exact_word operations.ShiftRight x y f g f' g' = low_word-wide _
exact_word operations.ShiftUnsigned x y f g f' g' = low_word-wide _
exact_word operations.And x y f g f' g' =
    enough _ (int_bit_and w16 x y) x y (ap (λ z. int_bit_and w16 z y) (sym (low_word_fixed x f))
    ∙ ap (λ z. int_bit_and w16 (low_word x) z) (sym (low_word_fixed y g)) ∙ low_word-and x y f' g')
exact_word operations.Or x y f g f' g' =
    enough _ (int_bit_or w16 x y) x y (ap (λ z. int_bit_or w16 z y) (sym (low_word_fixed x f))
    ∙ ap (λ z. int_bit_or w16 (low_word x) z) (sym (low_word_fixed y g)) ∙ low_word-or x y f' g')
exact_word operations.Xor x y f g f' g' =
    enough _ (int_bit_xor w16 x y) x y (ap (λ z. int_bit_xor w16 z y) (sym (low_word_fixed x f))
    ∙ ap (λ z. int_bit_xor w16 (low_word x) z) (sym (low_word_fixed y g)) ∙ low_word-xor x y f' g')
