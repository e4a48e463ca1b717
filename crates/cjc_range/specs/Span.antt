-- Spans of whole numbers: what an interval is to a contract.
use Rattle.std.specs.Prelude.{ℕ, ℤ, pos, negsuc, ◌-ℤ◌, ◌≤ℤ◌, unsigned_abs}

-- the numbers from low to high
pub record Span : Type 0 where
  pub low : ℤ
  pub high : ℤ

-- the span of two ends
abbrev pub span : ℤ → ℤ → Span
span low high = record { low = low; high = high }

-- z is one of the numbers
pub record Holds (s : Span) (z : ℤ) : Type 0 where
  pub above : s.low ≤ℤ z
  pub below : z ≤ℤ s.high

-- s is a part of t
pub record Within (s t : Span) : Type 0 where
  pub low : t.low ≤ℤ s.low
  pub high : s.high ≤ℤ t.high

-- how far its ends lie apart
abbrev pub width : Span → ℕ
width s = unsigned_abs (s.high -ℤ s.low)

-- all numbers of 8, 16 and 32 bits
abbrev pub byte_range : Span
byte_range = span (negsuc 127) (pos 127)

-- all numbers of 16 bits with a sign, the values of a short
abbrev pub short_range : Span
short_range = span (negsuc 32767) (pos 32767)

-- all numbers of 32 bits with a sign, the values of an int
abbrev pub full : Span
full = span (negsuc 2147483647) (pos 2147483647)

-- numbers of 32 bits, at least one: every interval is such a span
pub record IsWord (s : Span) : Type 0 where
  pub within : Within s full
  pub ordered : s.low ≤ℤ s.high
