-- Numbers of 32, 16 and 8 bits, with a sign.
use Rattle.std.specs.Prelude.{ℤ}
use Rattle.std.specs.Int.{w8, w16, w32, int_wrap}

-- what 32 bits leave of an exact result
abbrev pub wide : ℤ → ℤ
wide z = int_wrap w32 z

-- the low word, as a number with a sign
abbrev pub low_word : ℤ → ℤ
low_word z = int_wrap w16 z

-- the low byte, as a number with a sign
abbrev pub low_byte : ℤ → ℤ
low_byte z = int_wrap w8 z
