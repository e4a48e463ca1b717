-- The row of each operation: the span of its result, from the spans of its operands. In each row the
-- left operand is from a to b and the right one from c to d.
use Rattle.std.specs.Prelude.{◌≡◌, ℕ, zero, suc, ◌+◌, ◌-◌, ◌/◌, ◌^◌, ◌≤◌, min, max, ℤ, pos, negsuc, ◌+ℤ◌, ◌-ℤ◌, ◌*ℤ◌}
use Rattle.std.specs.Prelude.{neg_ℤ, int_le, int_lt, int_div, unsigned_abs, ◌==◌, nat_lt, ◌&&◌, if◌then◌else◌}
use Rattle.std.specs.Prelude.{MatchBool}
use Rattle.std.specs.Int.{int_min, int_max, int_shr}
use Rattle.std.specs.Int.Signed.{mag}
use Rattle.cjc_range.specs.Words.{shift_distance}
use Rattle.cjc_range.specs.Span.{Span, span, Holds, full, byte_range, short_range}

-- the span where it fits the range, else the range
abbrev pub clip : Span → Span → Span
clip range s = if int_le range.low s.low && int_le s.high range.high then s else range

-- r is the span from low to high where it fits 32 bits, else all numbers
pub record IsClipped (low high : ℤ) (r : Span) : Type 0 where
  pub is : r ≡ clip full (span low high)

-- ---- exact arithmetic over the ends

-- the least and the greatest of four numbers
abbrev pub int_min_of : ℤ → ℤ → ℤ → ℤ → ℤ
int_min_of a b c d = int_min (int_min a b) (int_min c d)

-- the greatest of four numbers
abbrev pub int_max_of : ℤ → ℤ → ℤ → ℤ → ℤ
int_max_of a b c d = int_max (int_max a b) (int_max c d)

-- r is the span of four numbers where it fits 32 bits, else all numbers
pub record IsHull (a b c d : ℤ) (r : Span) : Type 0 where
  pub is : r ≡ clip full (span (int_min_of a b c d) (int_max_of a b c d))

-- the least and the greatest value over the ends
abbrev pub over_ends : (ℤ → ℤ → ℤ) → Span → Span → Span
over_ends f s t =
    span (int_min_of (f s.low t.low) (f s.low t.high) (f s.high t.low) (f s.high t.high))
    (int_max_of (f s.low t.low) (f s.low t.high) (f s.high t.low) (f s.high t.high))

-- a result that leaves 32 bits is all numbers
abbrev pub add_row : Span → Span → Span
add_row s t = clip full (over_ends (λ x y. x +ℤ y) s t)

-- differences
abbrev pub sub_row : Span → Span → Span
sub_row s t = clip full (over_ends (λ x y. x -ℤ y) s t)

-- products
abbrev pub mul_row : Span → Span → Span
mul_row s t = clip full (over_ends (λ x y. x *ℤ y) s t)

-- numbers with their signs turned
abbrev pub neg_row : Span → Span
neg_row s = clip full (span (int_min (neg_ℤ s.low) (neg_ℤ s.high)) (int_max (neg_ℤ s.low) (neg_ℤ s.high)))

-- the greater of the sizes of the ends
abbrev pub greatest_size : Span → ℕ
greatest_size s = max (unsigned_abs s.low) (unsigned_abs s.high)

-- c at least 1: the quotients of the ends, rounded toward zero; otherwise from -m to m
abbrev pub div_row : Span → Span → Span
div_row s t =
    clip full (if int_le (pos 1) t.low
    then over_ends (λ x y. int_div x y) s t
    else span (neg_ℤ (pos (greatest_size s))) (pos (greatest_size s)))

-- no remainder is larger: less than a divisor, and no more than the number itself
abbrev pub rem_bound : Span → Span → ℕ
rem_bound s t = min (greatest_size t - 1) (greatest_size s)

-- from -k where there are negative numbers to k where there are positive ones
abbrev pub rem_within : Span → ℕ → Span
rem_within s k = span (if int_le (pos 0) s.low then pos 0 else neg_ℤ (pos k)) (if int_le s.high (pos 0) then pos 0
    else pos k)

-- remainders, with the sign of the number that is divided
abbrev pub rem_row : Span → Span → Span
rem_row s t = rem_within s (rem_bound s t)

-- the wider of both
abbrev pub join_row : Span → Span → Span
join_row s t = span (int_min s.low t.low) (int_max s.high t.high)

-- the same where it fits, else the type's range
abbrev pub to_byte_row : Span → Span
to_byte_row s = clip byte_range s

-- the same of shorts
abbrev pub to_short_row : Span → Span
to_short_row s = clip short_range s

-- ---- shifts

-- c = d: both ends times 2 to the distance; otherwise all numbers
abbrev pub shl_row : Span → Span → Span
shl_row s t =
    if int_le t.high t.low
    then clip full (span (s.low *ℤ pos (2 ^ shift_distance t.low)) (s.high *ℤ pos (2 ^ shift_distance t.low)))
    else full

-- c = d: both ends shifted; otherwise up to 0 and down to -1 too
abbrev pub shr_row : Span → Span → Span
shr_row s t =
    if int_le t.high t.low
    then span (int_shr s.low (shift_distance t.low)) (int_shr s.high (shift_distance t.low))
    else span (int_min s.low (pos 0)) (int_max s.high (negsuc 0))

-- the row of one distance k
abbrev pub ushr_by : Span → ℕ → Span
ushr_by s k =
    if k == 0 then s
    else if int_le (pos 0) s.low then span (int_shr s.low k) (int_shr s.high k)
    else if int_lt s.high (pos 0) then span (int_shr (s.low +ℤ pos (2 ^ 32)) k) (int_shr (s.high +ℤ pos (2 ^ 32)) k)
    else span (pos 0) (pos ((2 ^ 32 - 1) / 2 ^ k))

-- c = d: by the distance; otherwise from 0 to b where a is not negative, else all numbers
abbrev pub ushr_row : Span → Span → Span
ushr_row s t =
    if int_le t.high t.low then ushr_by s (shift_distance t.low)
    else (if int_le (pos 0) s.low then span (pos 0) s.high else full)

-- ---- bits

-- z is one of the numbers from -2^k to 2^k - 1
abbrev pub HasBits : ℕ → ℤ → Type 0
HasBits k z = Holds (span (neg_ℤ (pos (2 ^ k))) (pos (2 ^ k) -ℤ pos 1)) z

-- all ends are such numbers
pub record EndsHaveBits (k : ℕ) (s t : Span) : Type 0 where
  pub low_left : HasBits k s.low
  pub high_left : HasBits k s.high
  pub low_right : HasBits k t.low
  pub high_right : HasBits k t.high

-- from 0, or from -p where an operand may be negative, to p - 1
abbrev pub below_power : Span → Span → ℕ → Span
below_power s t p = span (if int_le (pos 0) s.low && int_le (pos 0) t.low then pos 0 else neg_ℤ (pos p))
    (pos p -ℤ pos 1)

-- the same of p = 2^k
abbrev pub of_bits : Span → Span → ℕ → Span
of_bits s t k = below_power s t (2 ^ k)

-- r is the row of or and xor: the numbers of k bits, where k is least with all ends among them
pub record IsOrRow (s t r : Span) : Type 0 where
  pub bits : ℕ
  pub ends : EndsHaveBits bits s t
  pub least : (k : ℕ) → EndsHaveBits k s t → bits ≤ k
  pub is : r ≡ of_bits s t bits

-- r is the row of and: from 0 to the least high end of an operand that is not negative; where none is, as or
abbrev pub IsAndRow : Span → Span → Span → Type 0
IsAndRow s t r =
    MatchBool (int_le (pos 0) s.low)
    (MatchBool (int_le (pos 0) t.low) (r ≡ span (pos 0) (int_min s.high t.high)) (r ≡ span (pos 0) s.high))
    (MatchBool (int_le (pos 0) t.low) (r ≡ span (pos 0) t.high) (IsOrRow s t r))

-- the least number of bits from k on, n more than k at most, that m has room in
abbrev pub bits_from : ℕ → ℕ → ℕ → ℕ
bits_from zero k m = k
bits_from (suc n) k m = if nat_lt m (2 ^ k) then k else bits_from n (k + 1) m

-- the least number of bits that m has room in, where 31 are enough
unfoldable pub least_bits : ℕ → ℕ
least_bits m = bits_from 31 0 m

-- the greatest of the four ends as bits see them: -1 counts as 0, -2 as 1
abbrev pub greatest_mag : Span → Span → ℕ
greatest_mag s t = max (max (mag s.low) (mag s.high)) (max (mag t.low) (mag t.high))

-- those rows as functions
abbrev pub or_row : Span → Span → Span
or_row s t = of_bits s t (least_bits (greatest_mag s t))

-- the row of and, from the signs of the low ends
abbrev pub and_row : Span → Span → Span
and_row s t =
    if int_le (pos 0) s.low
    then (if int_le (pos 0) t.low then span (pos 0) (int_min s.high t.high) else span (pos 0) s.high)
    else (if int_le (pos 0) t.low then span (pos 0) t.high else or_row s t)
