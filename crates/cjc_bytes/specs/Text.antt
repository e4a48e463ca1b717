-- The lines of a text, the words of a line, and decimal numbers.
use Rattle.std.specs.Prelude.{Bool, true, false, not, ◌&&◌, ◌||◌, if◌then◌else◌, ◌==◌, nat_le, nat_lt, ℕ, ◌+◌, ◌-◌, ◌*◌}
use Rattle.std.specs.Prelude.{List, [], ◌∷◌, length, filter, slice_index, Option, Some, None}
use Rattle.std.specs.List.{slice_split}
use Rattle.std.specs.Str.Lines.{strip_carriage_return}

-- a line, and the place in the text where it begins
pub record TextLine : Type 0 where
  pub at : ℕ
  pub text : List ℕ

-- the parts of some bytes between line feeds (10), of which each but the last ends a line
abbrev pub parts_of_text : List ℕ → List (List ℕ)
parts_of_text bytes = slice_split (λ b. b == 10) bytes

-- the lines that such parts are, the first of which stands at this place. Before a line feed one carriage
-- return (13) is dropped
unfoldable pub lines_from : ℕ → List (List ℕ) → List TextLine
lines_from at [] = []
lines_from at (part ∷ []) = record { at = at; text = part } ∷ []
lines_from at (part ∷ next ∷ parts) = record { at = at; text = strip_carriage_return part }
    ∷ lines_from (at + length part + 1) (next ∷ parts)

-- neither empty nor beginning with `#` (35)
abbrev pub is_kept : TextLine → Bool
is_kept l = has_content l.text
  where
    has_content : List ℕ → Bool
    has_content [] = false
    has_content (b ∷ bs) = not (b == 35)

-- the lines that are not passed over, of bytes that stand at this place
unfoldable pub kept : ℕ → List ℕ → List TextLine
kept at bytes = filter is_kept (lines_from at (parts_of_text bytes))

-- the lines of a text that are not passed over
abbrev pub kept_lines : List ℕ → List TextLine
kept_lines bytes = kept 0 bytes

-- whether a line begins or ends with a space (32)
abbrev pub is_spaced : List ℕ → Bool
is_spaced line = (slice_index line 0 == 32) || (slice_index line (length line - 1) == 32)

-- one byte or more
abbrev pub is_filled : List ℕ → Bool
is_filled [] = false
is_filled (b ∷ bs) = true

-- what stands between spaces, and is not empty
unfoldable pub filled_parts : List ℕ → List (List ℕ)
filled_parts line = filter is_filled (slice_split (λ b. b == 32) line)

-- the words of a line, which neither begins nor ends with a space
abbrev pub words : List ℕ → Option (List (List ℕ))
words line = if is_spaced line then None else Some (filled_parts line)

-- `0` is 48 and `9` is 57
abbrev pub is_digit : ℕ → Bool
is_digit c = nat_le 48 c && nat_le c 57

-- the number with these further digits, while it is at most the limit
unfoldable pub decimal_from : ℕ → ℕ → List ℕ → Option ℕ
decimal_from limit n [] = Some n
decimal_from limit n (c ∷ cs) = if is_digit c && nat_le (n * 10 + (c - 48)) limit
    then decimal_from limit (n * 10 + (c - 48)) cs else None

-- the number that one or more decimal digits spell, where it is at most the limit
abbrev pub decimal : ℕ → List ℕ → Option ℕ
decimal limit [] = None
decimal limit (c ∷ cs) = decimal_from limit 0 (c ∷ cs)

-- the same of at most so many digits
abbrev pub short_decimal : (digits limit : ℕ) → List ℕ → Option ℕ
short_decimal digits limit text = if nat_lt digits (length text) then None else decimal limit text
