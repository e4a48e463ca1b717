-- Whether a switch keeps a case, and the numbers that are tried in turn.
use Rattle.std.specs.Prelude.{ℕ, List, [], ◌∷◌, Bool, false, ◌||◌, if◌then◌else◌, ℤ, pos, ◌+ℤ◌}
use Rattle.std.specs.Int.RustNames.{int_le}
use Rattle.cjc_ncode.specs.LowerCardSemantics.Bytecode.Numbers.{is_word}
use Rattle.cjc_ncode.specs.declared.narrow.NCase.{NCase}

-- some value of a table from a low one on is a word
abbrev pub any_word : ℤ → List ℕ → Bool
any_word low [] = false
any_word low (t ∷ targets) = is_word low || any_word (low +ℤ pos 1) targets

-- the next number, up to the first above all words
abbrev pub next_value : ℤ → ℤ
next_value value = if int_le value (pos 32767) then value +ℤ pos 1 else value

-- a case where its value is a word
abbrev pub case_if : ℤ → (target : ℕ) → List NCase
case_if value target = if is_word value then record { value = value; target = target } ∷ [] else []
