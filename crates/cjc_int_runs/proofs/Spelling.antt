-- The two words of a number of 32 bits spell it.
use Rattle.std.proofs.Common.{◌≡◌, ℕ, suc, ◌+◌, ◌-◌, ◌/◌, ◌%◌, ◌^◌, ◌<◌, sym, ap, ◌∙◌, arith, ℤ, pos, negsuc, ◌+ℤ◌}
use Rattle.std.proofs.Common.{◌*ℤ◌, ◌≤◌, ◌≤ℤ◌, ⊎_elim, refl}
use Rattle.std.specs.Prelude.{FitsSigned}
use Rattle.std.specs.Int.{w16, w32, cast_unsigned, int_wrap}
use Rattle.std.proofs.lemmas.Int.{ints, to_z-of_z, of_z-to_z, int_wrap-add_right}
use Rattle.std.proofs.lemmas.Bool.{cases_lt}
use native.Mathlib.Nat.{div-add-mod', mod-lt}
use lib.Pow.{pow_pos}
use mir.ValLaws as laws
use Rattle.cjc_range.specs.Words.{wide, low_word, low_byte}
use Rattle.cjc_range.proofs.WordsLaws.Words.{low_word-cast, low_word_same, wide_fixed, wide_fits, low_word_fits}
use Rattle.cjc_range.proofs.WordsLaws.Words.{low_byte_fits, low_word-wide, low_word_above, low_word_below}
use Rattle.cjc_card_semantics.specs.Bytecode.Numbers.{high_word, spelt_by}

-- the bits of the low word are the low bits
low_word_bits : (z : ℤ) → FitsSigned w32 z → cast_unsigned w16 (low_word z) ≡ cast_unsigned w32 z % 65536
low_word_bits z f =
    let small : cast_unsigned w32 z < 2 ^ 32 = (laws.of_z_fits w32 z f).fits in
    ap (λ x. cast_unsigned w16 (low_word x)) (sym (to_z-of_z w32 z f))
    ∙ ap (cast_unsigned w16) (low_word-cast (cast_unsigned w32 z) small)
    ∙ of_z-to_z w16 (cast_unsigned w32 z % 2 ^ 16) (mod-lt (cast_unsigned w32 z) (pow_pos 16))

-- by the high word and the bits of the low one
spelt_as : (z high low : ℤ) (bits : ℕ) → FitsSigned w32 z → high_word z ≡ high → cast_unsigned w16 (low_word z) ≡ bits
    → (high *ℤ pos 65536) +ℤ pos bits ≡ z → spelt_by (high_word z) (low_word z) ≡ z
spelt_as z high low bits f h l e =
    ap (λ a. wide ((a *ℤ pos 65536) +ℤ pos (cast_unsigned w16 (low_word z)))) h
    ∙ ap (λ n. wide ((high *ℤ pos 65536) +ℤ pos n)) l ∙ ap wide e ∙ wide_fixed z f

pub spelt_words : (z : ℤ) → FitsSigned w32 z → spelt_by (high_word z) (low_word z) ≡ z
spelt_words (pos a) f =
    let h = f.sfits in let d = div-add-mod' a 65536 in
    spelt_as (pos a) (pos (a / 65536)) (pos 0) (a % 65536) f
    (low_word_same (pos (a / 65536)) (omega (arith, ints, h, d)) (omega (arith, ints, h, d)))
    (low_word_bits (pos a) f) (omega (arith, ints, d))
spelt_words (negsuc a) f =
    let h = f.sfits in let d = div-add-mod' a 65536 in
    let n = 4294967296 - suc a in
    let g = div-add-mod' n 65536 in
    let small = mod-lt a (pow_pos 16) in
    let small' = mod-lt n (pow_pos 16) in
    let sum : n + suc a ≡ 4294967296 = omega (arith, h) in
    spelt_as (negsuc a) (negsuc (a / 65536)) (pos 0) (n % 65536) f
    (low_word_same (negsuc (a / 65536)) (omega (arith, ints, h, d)) (omega (arith, ints, h, d)))
    (low_word_bits (negsuc a) f) (omega (arith, ints, d, g, sum, small, small'))

-- what 32 bits leave of a result is spelt by its words
pub spelt_result : (z x : ℤ) → z ≡ wide x → z ≡ spelt_by (high_word (wide x)) (low_word (wide x))
spelt_result z x e = e ∙ sym (spelt_words (wide x) (wide_fits x))

-- a number of 32 bits is spelt by its words
pub spelt_number : (z x : ℤ) → z ≡ x → FitsSigned w32 x → z ≡ spelt_by (high_word x) (low_word x)
spelt_number z x e f = e ∙ sym (spelt_words x f)

-- what 16 and 8 bits leave has 32 bits
pub word_is_int : (z : ℤ) → FitsSigned w32 (low_word z)
word_is_int z = let h = (low_word_fits z).sfits in record { sfits = omega (arith, h) }

pub byte_is_int : (z : ℤ) → FitsSigned w32 (low_byte z)
byte_is_int z = let h = (low_byte_fits z).sfits in record { sfits = omega (arith, h) }

-- ---- numbers just past 32 bits

-- what is by the whole of 32 bits past a number is cut to it
whole_is_none : wide (pos 4294967296) ≡ pos 0
unfolding int_wrap
whole_is_none = refl

wide_past : (w : ℤ) → FitsSigned w32 w → wide (w +ℤ pos 4294967296) ≡ w
wide_past w f =
    let none : w +ℤ pos 0 ≡ w = omega (arith, ints) in
    sym (int_wrap-add_right w32 w (pos 4294967296)) ∙ ap (λ a. wide (w +ℤ a)) whole_is_none ∙ ap wide none
    ∙ wide_fixed w f

wide_before : (z w : ℤ) → FitsSigned w32 w → z +ℤ pos 4294967296 ≡ w → wide z ≡ w
wide_before z w f e =
    let none : z +ℤ pos 0 ≡ z = omega (arith, ints) in
    ap wide (sym none) ∙ ap (λ a. wide (z +ℤ a)) (sym whole_is_none) ∙ int_wrap-add_right w32 z (pos 4294967296)
    ∙ ap wide e ∙ wide_fixed w f

-- a number that is cut to another with the same high word
spelt_cut : (z w : ℤ) → FitsSigned w32 w → wide z ≡ w → high_word z ≡ high_word w
    → spelt_by (high_word z) (low_word z) ≡ wide z
spelt_cut z w f cut high =
    let low : low_word z ≡ low_word w = sym (low_word-wide z) ∙ ap low_word cut in
    ap (λ h. spelt_by h (low_word z)) high ∙ ap (spelt_by (high_word w)) low ∙ spelt_words w f ∙ sym cut

above : (n : ℕ) → 2147483648 ≤ n → n < 4294967296 → spelt_by (high_word (pos n)) (low_word (pos n)) ≡ wide (pos n)
above n least most =
    let k = 4294967295 - n in
    let d = div-add-mod' n 65536 in let e = div-add-mod' k 65536 in
    let small = mod-lt n (pow_pos 16) in let small' = mod-lt k (pow_pos 16) in
    let sum : k + n ≡ 4294967295 = omega (arith, most) in
    let q : 65535 - n / 65536 ≡ k / 65536 = omega (arith, d, e, small, small', sum) in
    let f : FitsSigned w32 (negsuc k) = record { sfits = omega (arith, sum, least) } in
    let whole : negsuc k +ℤ pos 4294967296 ≡ pos n = omega (arith, ints, sum) in
    spelt_cut (pos n) (negsuc k) f (ap wide (sym whole) ∙ wide_past (negsuc k) f)
    (low_word_above (n / 65536) (omega (arith, d, small, least)) (omega (arith, d, most)) ∙ ap negsuc q
    ∙ sym (low_word_same (negsuc (k / 65536)) (omega (arith, ints, e, small', sum, least))
    (omega (arith, ints))))

below : (n : ℕ) → 2147483648 ≤ n → n < 2147549184 → spelt_by (high_word (negsuc n)) (low_word (negsuc n))
    ≡ wide (negsuc n)
below n least most =
    let k = 4294967295 - n in
    let d = div-add-mod' n 65536 in let e = div-add-mod' k 65536 in
    let small = mod-lt n (pow_pos 16) in let small' = mod-lt k (pow_pos 16) in
    let sum : k + n ≡ 4294967295 = omega (arith, most) in
    let q : n / 65536 ≡ 32768 = omega (arith, d, small, least, most) in
    let q' : k / 65536 ≡ 32767 = omega (arith, e, small', sum, least, most) in
    let f : FitsSigned w32 (pos k) = record { sfits = omega (arith, sum, least) } in
    let whole : negsuc n +ℤ pos 4294967296 ≡ pos k = omega (arith, ints, sum) in
    spelt_cut (negsuc n) (pos k) f (wide_before (negsuc n) (pos k) f whole)
    (ap (λ a. low_word (negsuc a)) q ∙ low_word_below
    ∙ sym (ap (λ a. low_word (pos a)) q' ∙ low_word_same (pos 32767) (omega (arith, ints)) (omega (arith, ints))))

-- what a short is added to is spelt cut to 32 bits
pub spelt_near : (z : ℤ) → negsuc 2147516415 ≤ℤ z → z ≤ℤ pos 2147516414 → spelt_by (high_word z) (low_word z) ≡ wide z
spelt_near (pos n) low high = ⊎_elim
    (λ lt. let f : FitsSigned w32 (pos n) = record { sfits = omega (arith, lt) }
    in spelt_words (pos n) f ∙ sym (wide_fixed (pos n) f))
    (λ ge. above n ge (omega (arith, ints, high))) (cases_lt n 2147483648)
spelt_near (negsuc n) low high = ⊎_elim
    (λ lt. let f : FitsSigned w32 (negsuc n) = record { sfits = omega (arith, lt) }
    in spelt_words (negsuc n) f ∙ sym (wide_fixed (negsuc n) f))
    (λ ge. below n ge (omega (arith, ints, low))) (cases_lt n 2147483648)
