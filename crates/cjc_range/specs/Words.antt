-- Numbers of 32, 16 and 8 bits, with a sign: what they are cut to, shifts (Java Virtual Machine Specification, section
-- 6.5, ishl and iushr), and indices.
use Rattle.std.specs.Prelude.{ℕ, ◌/◌, ◌%◌, ◌^◌, ◌<◌, ℤ, pos, negsuc}
use Rattle.std.specs.Int.{w8, w16, w32, int_wrap, cast_signed, cast_unsigned}

-- what 32 bits leave of an exact result
abbrev pub wide : ℤ → ℤ
wide z = int_wrap w32 z

-- the low word, as a number with a sign
abbrev pub low_word : ℤ → ℤ
low_word z = int_wrap w16 z

-- the low byte, as a number with a sign
abbrev pub low_byte : ℤ → ℤ
low_byte z = int_wrap w8 z

-- by how many bits a number shifts: its low five bits
abbrev pub shift_distance : ℤ → ℕ
shift_distance z = cast_unsigned w32 z % 32

-- shifted down by so many bits, with zeros from above
abbrev pub unsigned_shift : ℤ → ℕ → ℤ
unsigned_shift z k = cast_signed w32 (cast_unsigned w32 z / 2 ^ k)

-- The index is inside an array of n elements.
abbrev pub IsInside : ℕ → ℤ → Type 0
IsInside n (pos i) = i < n
IsInside n (negsuc i) = ⊥
