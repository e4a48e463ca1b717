-- Rows of the table of intervals, worked out at chosen ends: every landmark, both signs, divisors with 0 among them,
-- distances outside 0 to 31. A row has the operands and the result.
use Rattle.std.specs.Prelude.{ℕ, ℤ, pos, neg_ℤ, List, [], ◌∷◌, map}
use Rattle.cjc_code.specs.Range.Span.{Span, span, full}

-- from one number to another
abbrev pub to : ℤ → ℤ → Span
to low high = span low high

-- a number that is not negative
abbrev pub plus : ℕ → ℤ
plus n = pos n

-- a number below 0
abbrev pub minus : ℕ → ℤ
minus n = neg_ℤ (pos n)

-- the least number of 32 bits
abbrev pub least : ℤ
least = minus 2147483648

-- the greatest number of 32 bits
abbrev pub greatest : ℤ
greatest = plus 2147483647

-- what an operation of one operand gives in each row
abbrev pub given_of_one : (Span → Span) → List (Span × Span) → List Span
given_of_one operation rows = map (λ r. operation r.0) rows

-- what each row wants of it
abbrev pub wanted_of_one : List (Span × Span) → List Span
wanted_of_one rows = map (λ r. r.1) rows

-- what an operation of two operands gives in each row
abbrev pub given_of_two : (Span → Span → Span) → List (Span × Span × Span) → List Span
given_of_two operation rows = map (λ r. operation r.0 r.1) rows

-- what each row wants of it
abbrev pub wanted_of_two : List (Span × Span × Span) → List Span
wanted_of_two rows = map (λ r. r.2) rows

-- sums
abbrev pub sums : List (Span × Span × Span)
sums = (to (plus 1) (plus 2), to (plus 10) (plus 20), to (plus 11) (plus 22))
    ∷ (full, to (plus 0) (plus 0), full) ∷ (full, to (plus 1) (plus 1), full)
    ∷ (to greatest greatest, to (plus 0) (plus 1), full)
    ∷ (to (plus 2147483646) (plus 2147483646), to (plus 0) (plus 1), to (plus 2147483646) greatest)
    ∷ (to least (plus 0), to (minus 1) (plus 0), full)
    ∷ (to (minus 32768) (plus 32767), to (minus 65536) (plus 65535), to (minus 98304) (plus 98302))
    ∷ (to (minus 1) (plus 0), to (plus 1) (plus 127), to (plus 0) (plus 127)) ∷ []

-- differences
abbrev pub differences : List (Span × Span × Span)
differences = (to (plus 1) (plus 2), to (plus 10) (plus 20), to (minus 19) (minus 8))
    ∷ (to least (minus 1), to (plus 0) (plus 0), to least (minus 1))
    ∷ (to least (plus 0), to (plus 1) (plus 1), full) ∷ (to (plus 0) (plus 0), to least least, full)
    ∷ (to (minus 1) (minus 1), full, full) ∷ (to (plus 0) greatest, to (minus 1) (plus 0), full)
    ∷ (to (minus 128) (plus 127), to (minus 255) (plus 255), to (minus 383) (plus 382)) ∷ []

-- products
abbrev pub products : List (Span × Span × Span)
products = (to (minus 3) (plus 5), to (minus 7) (plus 2), to (minus 35) (plus 21))
    ∷ (to (minus 32768) (plus 32767), to (minus 32768) (plus 32767), to (minus 1073709056) (plus 1073741824))
    ∷ (to (minus 65536) (plus 65535), to (minus 32768) (plus 32767), full)
    ∷ (to (minus 65536) (plus 65535), to (minus 32768) (plus 32768), full)
    ∷ (to least least, to (minus 1) (minus 1), full) ∷ (to least least, to (plus 1) (plus 1), to least least)
    ∷ (full, to (plus 0) (plus 0), to (plus 0) (plus 0))
    ∷ (to (minus 4) (minus 2), to (minus 8) (minus 3), to (plus 6) (plus 32))
    ∷ (to (plus 65535) (plus 65535), to (plus 32767) (plus 32767), to (plus 2147385345) (plus 2147385345)) ∷ []

-- quotients, of which those by 0 are none
abbrev pub quotients : List (Span × Span × Span)
quotients = (to (minus 7) (plus 9), to (plus 2) (plus 4), to (minus 3) (plus 4))
    ∷ (to (minus 9) (minus 5), to (plus 2) (plus 4), to (minus 4) (minus 1))
    ∷ (to (plus 5) (plus 9), to (plus 2) (plus 4), to (plus 1) (plus 4)) ∷ (full, to (plus 1) (plus 1), full)
    ∷ (to least (plus 5), to (minus 1) (plus 4), full) ∷ (to least least, to (minus 1) (minus 1), full)
    ∷ (to (minus 10) (plus 6), to (plus 0) (plus 0), to (minus 10) (plus 10))
    ∷ (to (minus 10) (plus 6), to (plus 0) (plus 4), to (minus 10) (plus 10))
    ∷ (to (plus 3) (plus 12), to (minus 4) (minus 2), to (minus 12) (plus 12))
    ∷ (to (plus 0) (plus 0), to (minus 1) (plus 1), to (plus 0) (plus 0)) ∷ (full, to (plus 1) greatest, full)
    ∷ (to (minus 7) (plus 7), to (plus 127) (plus 255), to (plus 0) (plus 0)) ∷ []

-- rests
abbrev pub rests : List (Span × Span × Span)
rests = (to (plus 0) (plus 100), to (plus 1) (plus 10), to (plus 0) (plus 9))
    ∷ (to (minus 100) (plus 100), to (plus 1) (plus 10), to (minus 9) (plus 9))
    ∷ (to (minus 100) (minus 1), to (plus 1) (plus 10), to (minus 9) (plus 0))
    ∷ (to (minus 100) (plus 0), to (minus 10) (minus 1), to (minus 9) (plus 0))
    ∷ (to (minus 5) (plus 3), to (plus 1) (plus 1000), to (minus 5) (plus 5))
    ∷ (to (plus 3) (plus 5), to (minus 7) (plus 2), to (plus 0) (plus 5))
    ∷ (full, to least least, to (minus 2147483647) greatest)
    ∷ (full, to (plus 1) (plus 1), to (plus 0) (plus 0))
    ∷ (to (minus 6) (plus 6), to (plus 0) (plus 0), to (plus 0) (plus 0))
    ∷ (to (minus 6) (plus 6), to (plus 0) (plus 1), to (plus 0) (plus 0))
    ∷ (to least least, to (minus 1) greatest, to (minus 2147483646) (plus 0))
    ∷ (to (plus 0) (plus 0), to (plus 5) (plus 5), to (plus 0) (plus 0))
    ∷ (to (minus 32768) (plus 32767), to (minus 32768) (plus 32767), to (minus 32767) (plus 32767))
    ∷ (to (plus 1) greatest, to (minus 65536) (plus 255), to (plus 0) (plus 65535)) ∷ []

-- numbers shifted up by the low five bits of others
abbrev pub shifts_up : List (Span × Span × Span)
shifts_up = (to (minus 3) (plus 5), to (plus 4) (plus 4), to (minus 48) (plus 80))
    ∷ (to (minus 3) (plus 5), to (plus 36) (plus 36), to (minus 48) (plus 80))
    ∷ (to (minus 3) (plus 5), to (minus 28) (minus 28), to (minus 48) (plus 80))
    ∷ (to (plus 1) (plus 1), to (plus 31) (plus 31), full)
    ∷ (to (minus 1) (plus 0), to (plus 31) (plus 31), to least (plus 0))
    ∷ (to (plus 0) (plus 0), to (plus 31) (plus 31), to (plus 0) (plus 0))
    ∷ (to (minus 32768) (plus 32767), to (plus 16) (plus 16), to least (plus 2147418112))
    ∷ (to (minus 32769) (plus 0), to (plus 16) (plus 16), full)
    ∷ (to (plus 0) (plus 32768), to (plus 16) (plus 16), full) ∷ (full, to (plus 32) (plus 32), full)
    ∷ (to (plus 0) (plus 0), to (plus 0) (plus 1), full)
    ∷ (to (minus 1) (plus 1), to least least, to (minus 1) (plus 1))
    ∷ (to (minus 1) (plus 1), to greatest greatest, full) ∷ []

-- numbers shifted down
abbrev pub shifts_down : List (Span × Span × Span)
shifts_down = (to (minus 9) (plus 5), to (plus 1) (plus 1), to (minus 5) (plus 2))
    ∷ (to (minus 9) (plus 5), to (plus 33) (plus 33), to (minus 5) (plus 2))
    ∷ (to (minus 9) (plus 5), to (minus 1) (minus 1), to (minus 1) (plus 0))
    ∷ (to (minus 9) (plus 5), to (plus 0) (plus 3), to (minus 9) (plus 5))
    ∷ (to (plus 4) (plus 9), to (plus 0) (plus 3), to (plus 0) (plus 9))
    ∷ (to (minus 9) (minus 4), to (plus 0) (plus 3), to (minus 9) (minus 1))
    ∷ (full, to (plus 31) (plus 31), to (minus 1) (plus 0))
    ∷ (full, to (plus 16) (plus 16), to (minus 32768) (plus 32767))
    ∷ (to (plus 65535) (plus 65535), to (plus 8) (plus 8), to (plus 255) (plus 255)) ∷ []

-- numbers shifted down with zeros from above
abbrev pub unsigned_shifts : List (Span × Span × Span)
unsigned_shifts = (to (minus 1) (minus 1), to (plus 20) (plus 20), to (plus 4095) (plus 4095))
    ∷ (to (plus 4) (plus 9), to (plus 1) (plus 1), to (plus 2) (plus 4))
    ∷ (to (minus 9) (plus 5), to (plus 0) (plus 0), to (minus 9) (plus 5))
    ∷ (to (minus 9) (plus 5), to (plus 32) (plus 32), to (minus 9) (plus 5))
    ∷ (to (minus 9) (plus 5), to (plus 1) (plus 1), to (plus 0) greatest)
    ∷ (to (minus 9) (plus 5), to (minus 1) (minus 1), to (plus 0) (plus 1))
    ∷ (full, to (plus 31) (plus 31), to (plus 0) (plus 1))
    ∷ (to least (minus 1), to (plus 1) (plus 1), to (plus 1073741824) greatest)
    ∷ (to (minus 32768) (minus 1), to (plus 16) (plus 16), to (plus 65535) (plus 65535))
    ∷ (to least least, to (plus 31) (plus 31), to (plus 1) (plus 1))
    ∷ (to (plus 4) (plus 9), to (plus 0) (plus 3), to (plus 0) (plus 9))
    ∷ (to (plus 0) greatest, to (plus 0) (plus 32), to (plus 0) greatest)
    ∷ (to (minus 9) (plus 5), to (plus 0) (plus 3), full) ∷ (to (minus 9) (minus 5), to (plus 1) (plus 2), full)
    ∷ (to (plus 0) (plus 65535), to (plus 8) (plus 8), to (plus 0) (plus 255)) ∷ []

-- bits that both have
abbrev pub conjunctions : List (Span × Span × Span)
conjunctions = (to (plus 0) (plus 100), to (plus 0) (plus 255), to (plus 0) (plus 100))
    ∷ (to (plus 3) (plus 127), to (plus 65535) (plus 65535), to (plus 0) (plus 127))
    ∷ (to (minus 9) (plus 5), to (plus 0) (plus 255), to (plus 0) (plus 255))
    ∷ (to (plus 0) (plus 65535), full, to (plus 0) (plus 65535))
    ∷ (to (minus 9) (plus 5), to (minus 1) (plus 3), to (minus 16) (plus 15))
    ∷ (to (minus 1) (minus 1), to (minus 1) (minus 1), to (minus 1) (plus 0))
    ∷ (to (minus 1) (plus 0), to (minus 1) (plus 0), to (minus 1) (plus 0))
    ∷ (full, to (minus 1) (minus 1), full)
    ∷ (to (minus 32768) (plus 32767), to (minus 128) (plus 127), to (minus 32768) (plus 32767))
    ∷ (to (minus 32769) (plus 0), to (minus 1) (plus 0), to (minus 65536) (plus 65535))
    ∷ (to (plus 0) (plus 0), to least least, to (plus 0) (plus 0)) ∷ []

-- bits that one of them has
abbrev pub disjunctions : List (Span × Span × Span)
disjunctions = (to (plus 0) (plus 100), to (plus 0) (plus 255), to (plus 0) (plus 255))
    ∷ (to (plus 0) (plus 0), to (plus 0) (plus 0), to (plus 0) (plus 0))
    ∷ (to (plus 1) (plus 1), to (plus 0) (plus 0), to (plus 0) (plus 1))
    ∷ (to (minus 1) (plus 0), to (plus 0) (plus 0), to (minus 1) (plus 0))
    ∷ (to (plus 0) (plus 0), to (minus 1) (minus 1), to (minus 1) (plus 0))
    ∷ (to (plus 0) (plus 128), to (plus 3) (plus 4), to (plus 0) (plus 255))
    ∷ (to (minus 9) (plus 5), to (plus 0) (plus 3), to (minus 16) (plus 15))
    ∷ (to (plus 0) greatest, to (plus 0) (plus 1), to (plus 0) greatest)
    ∷ (to least (plus 0), to (plus 1) (plus 1), full)
    ∷ (to (minus 32768) (plus 32767), to (plus 0) (plus 65535), to (minus 65536) (plus 65535))
    ∷ (to (minus 128) (plus 127), to (minus 128) (plus 127), to (minus 128) (plus 127)) ∷ []

-- bits that one alone has, by the row of those that one has
abbrev pub exclusive : List (Span × Span × Span)
exclusive = (to (plus 0) (plus 127), to (plus 0) (plus 1), to (plus 0) (plus 127))
    ∷ (to (plus 0) (plus 256), to (plus 0) (plus 1), to (plus 0) (plus 511))
    ∷ (to (minus 2) (plus 1), to (plus 0) (plus 1), to (minus 2) (plus 1))
    ∷ (to (minus 1) (plus 0), to (minus 1) (plus 0), to (minus 1) (plus 0)) ∷ (full, to (plus 0) (plus 0), full)
    ∷ (to (minus 65536) (plus 65535), to (plus 0) (plus 0), to (minus 65536) (plus 65535)) ∷ []

-- the wider of both
abbrev pub joins : List (Span × Span × Span)
joins = (to (plus 1) (plus 2), to (plus 10) (plus 20), to (plus 1) (plus 20))
    ∷ (to (plus 10) (plus 20), to (plus 1) (plus 2), to (plus 1) (plus 20))
    ∷ (to (minus 5) (plus 30), to (plus 1) (plus 2), to (minus 5) (plus 30))
    ∷ (to least (minus 1), to (plus 0) greatest, full)
    ∷ (to (plus 0) (plus 0), to (plus 0) (plus 0), to (plus 0) (plus 0)) ∷ []

-- numbers with their signs turned
abbrev pub opposites : List (Span × Span)
opposites = (to (plus 1) (plus 2), to (minus 2) (minus 1)) ∷ (to (minus 2) (minus 1), to (plus 1) (plus 2))
    ∷ (to (minus 3) (plus 5), to (minus 5) (plus 3))
    ∷ (to (minus 2147483647) greatest, to (minus 2147483647) greatest) ∷ (full, full) ∷ (to least least, full)
    ∷ (to (plus 0) (plus 0), to (plus 0) (plus 0))
    ∷ (to (minus 32768) (plus 32767), to (minus 32767) (plus 32768)) ∷ []

-- casts to byte
abbrev pub bytes : List (Span × Span)
bytes = (to (minus 128) (plus 127), to (minus 128) (plus 127))
    ∷ (to (minus 129) (plus 0), to (minus 128) (plus 127)) ∷ (to (plus 0) (plus 128), to (minus 128) (plus 127))
    ∷ (to (minus 1) (plus 1), to (minus 1) (plus 1)) ∷ (to least least, to (minus 128) (plus 127))
    ∷ (to (plus 127) (plus 127), to (plus 127) (plus 127))
    ∷ (to (plus 200) (plus 200), to (minus 128) (plus 127)) ∷ []

-- casts to short
abbrev pub shorts : List (Span × Span)
shorts = (to (minus 32768) (plus 32767), to (minus 32768) (plus 32767))
    ∷ (to (minus 32769) (plus 0), to (minus 32768) (plus 32767))
    ∷ (to (plus 0) (plus 32768), to (minus 32768) (plus 32767))
    ∷ (to (minus 128) (plus 255), to (minus 128) (plus 255))
    ∷ (to (plus 30000) (plus 40000), to (minus 32768) (plus 32767))
    ∷ (to greatest greatest, to (minus 32768) (plus 32767))
    ∷ (to (plus 65535) (plus 65535), to (minus 32768) (plus 32767)) ∷ []

-- ends moved outwards to landmarks
abbrev pub rounded : List (Span × Span)
rounded = (to least least, to least least) ∷ (to (minus 65536) (minus 65536), to (minus 65536) (minus 65536))
    ∷ (to (minus 32768) (minus 32768), to (minus 32768) (minus 32768))
    ∷ (to (minus 128) (minus 128), to (minus 128) (minus 128))
    ∷ (to (minus 1) (minus 1), to (minus 1) (minus 1)) ∷ (to (plus 0) (plus 0), to (plus 0) (plus 0))
    ∷ (to (plus 1) (plus 1), to (plus 1) (plus 1)) ∷ (to (plus 127) (plus 127), to (plus 127) (plus 127))
    ∷ (to (plus 255) (plus 255), to (plus 255) (plus 255))
    ∷ (to (plus 32767) (plus 32767), to (plus 32767) (plus 32767))
    ∷ (to (plus 65535) (plus 65535), to (plus 65535) (plus 65535))
    ∷ (to greatest greatest, to greatest greatest) ∷ (to (minus 2147483647) (plus 2147483646), full)
    ∷ (to (minus 65537) (plus 65536), full) ∷ (to (minus 65535) (plus 65534), to (minus 65536) (plus 65535))
    ∷ (to (minus 32769) (plus 32768), to (minus 65536) (plus 65535))
    ∷ (to (minus 32767) (plus 32766), to (minus 32768) (plus 32767))
    ∷ (to (minus 129) (plus 256), to (minus 32768) (plus 32767))
    ∷ (to (minus 127) (plus 254), to (minus 128) (plus 255))
    ∷ (to (minus 2) (plus 128), to (minus 128) (plus 255)) ∷ (to (plus 2) (plus 126), to (plus 1) (plus 127))
    ∷ (to (minus 5) (minus 3), to (minus 128) (minus 1))
    ∷ (to (plus 300) (plus 400), to (plus 255) (plus 32767)) ∷ []
