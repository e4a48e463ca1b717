-- The packages that a text names, or the place where it breaks rule 109.
use Rattle.std.specs.Prelude.{ℕ, List, [], ◌∷◌, length, Option, option_and_then, Result, Ok, Err}
use Rattle.cjc_bytes.specs.Found.{◌>>=◌, kept}
use Rattle.cjc_bytes.specs.Text.{TextLine, words, kept_lines}
use Rattle.cjc_bytes.specs.Refused.{refusal}
use Rattle.cjc_bytes.specs.declared.fault.Refusal.{Refusal}
use Rattle.cjc_group.specs.declared.line.PackageLine.{PackageLine}
use Rattle.cjc_group.specs.Grammar.{with_line}

-- what the words of a line say by this reading, or the place of the line
abbrev pub said : (List (List ℕ) → Option (List PackageLine)) → TextLine → Result (List PackageLine) ℕ
said reading l = kept l.at (option_and_then reading (words l.text))

-- the packages with those of these further lines, or the place of the first that is malformed
unfoldable pub with_lines : List PackageLine → List TextLine → Result (List PackageLine) ℕ
with_lines packages [] = Ok packages
with_lines packages (l ∷ ls) = do
  more ← said (with_line packages) l
  with_lines more ls

-- the packages of these lines, or the place of the first that is malformed; where there is no line, that is the end
unfoldable pub of_lines : (end : ℕ) → List TextLine → Result (List PackageLine) ℕ
of_lines end [] = Err end
of_lines end (l ∷ ls) = with_lines [] (l ∷ ls)

-- the refusal of a place
abbrev pub or_refused : (name : List ℕ) → Result (List PackageLine) ℕ → Result (List PackageLine) Refusal
or_refused name (Ok packages) = Ok packages
or_refused name (Err k) = Err (refusal name 109 k)

-- The packages that a text of this name names, or 109 at its first malformed line, or at its end where it has none.
unfoldable pub grouped : (name text : List ℕ) → Result (List PackageLine) Refusal
grouped name text = or_refused name (of_lines (length text) (kept_lines text))
