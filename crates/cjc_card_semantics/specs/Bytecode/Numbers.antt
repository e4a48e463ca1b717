-- Words of 16 bits, pairs of them, and what the card calculates with them (Java Card Virtual Machine Specification
-- 2.2.2, chapters 3 and 7).
use Rattle.std.specs.Prelude.{zero, suc, ◌^◌, Bool, true, false, ◌&&◌, ℤ, pos, negsuc, neg_ℤ, ◌+ℤ◌, ◌-ℤ◌, ◌*ℤ◌}
use Rattle.std.specs.Prelude.{if◌then◌else◌}
use Rattle.std.specs.Int.{w16, cast_unsigned, int_shr}
use Rattle.std.specs.Int.RustNames.{int_lt, int_le}
use Rattle.cjc_range.specs.Words.{wide, low_word, shift_distance, unsigned_shift}

-- the high word of a number of 32 bits
abbrev pub high_word : ℤ → ℤ
high_word z = low_word (int_shr z 16)

-- the number of 32 bits that two words spell
abbrev pub spelt_by : (high low : ℤ) → ℤ
spelt_by high low = wide ((high *ℤ pos 65536) +ℤ pos (cast_unsigned w16 low))

-- a number that one word holds
abbrev pub is_word : ℤ → Bool
is_word z = int_le (negsuc 32767) z && int_le z (pos 32767)

-- the number is 0
abbrev pub is_zero : ℤ → Bool
is_zero (pos zero) = true
is_zero (pos (suc n)) = false
is_zero (negsuc n) = false

-- two numbers are the same
abbrev pub same_number : ℤ → ℤ → Bool
same_number x y = is_zero (x -ℤ y)

-- ---- exact results, which a word or an int cuts

-- both together
abbrev pub sum : ℤ → ℤ → ℤ
sum x y = x +ℤ y

-- the first less the second
abbrev pub difference : ℤ → ℤ → ℤ
difference x y = x -ℤ y

-- one times the other
abbrev pub product : ℤ → ℤ → ℤ
product x y = x *ℤ y

-- below 0 as much as above
abbrev pub negated : ℤ → ℤ
negated x = neg_ℤ x

-- shifted up
abbrev pub shifted_left : ℤ → ℤ → ℤ
shifted_left x d = x *ℤ pos (2 ^ shift_distance d)

-- shifted down, with the sign from above
abbrev pub shifted_right : ℤ → ℤ → ℤ
shifted_right x d = int_shr x (shift_distance d)

-- zeros come in at the high end of 32 bits
abbrev pub shifted_unsigned : ℤ → ℤ → ℤ
shifted_unsigned x d = unsigned_shift x (shift_distance d)

-- -1, 0 or 1
abbrev pub compared : ℤ → ℤ → ℤ
compared x y = if int_lt x y then negsuc 0 else (if int_lt y x then pos 1 else pos 0)
