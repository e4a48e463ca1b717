-- The list that a text is, or the first rule that it breaks.
use Rattle.std.specs.Prelude.{if◌then◌else◌, ◌==◌, ℕ, List, [], ◌∷◌, length, Option, option_and_then, Result, Ok, Err}
use Rattle.cjc_bytes.specs.Found.{◌>>=◌, kept}
use Rattle.cjc_bytes.specs.Text.{TextLine, words, kept_lines}
use Rattle.cjc_bytes.specs.Refused.{refusal}
use Rattle.cjc_bytes.specs.declared.fault.Fault.{Fault}
use Rattle.cjc_bytes.specs.declared.fault.Fault.TheVariants as faults
use Rattle.cjc_bytes.specs.declared.fault.Refusal.{Refusal}
use Rattle.cjc_list.specs.declared.listing.List.{List as Listing}
use Rattle.cjc_list.specs.Grammar.{package_of, with_line, class_count}

-- a list as contracts see it: the name of the list, of the package, its AID and version, whether int is
-- allowed, the applets and the files
abbrev pub ListTree : Type 0
ListTree = Listing

-- the bytes of a name or a text
abbrev pub Codes : Type 0
Codes = List ℕ

-- what the words of a line say by this reading, or the place of the line
abbrev pub said : (List (List ℕ) → Option Listing) → TextLine → Result Listing ℕ
said reading l = kept l.at (option_and_then reading (words l.text))

-- the list with these further lines, or the place of the first that is malformed
unfoldable pub with_lines : Listing → List TextLine → Result Listing ℕ
with_lines list [] = Ok list
with_lines list (l ∷ ls) = do
  more ← said (with_line list) l
  with_lines more ls

-- the list of these lines, of which the first is the package line, or the place of the first that is
-- malformed; where there is no line, that is the end
unfoldable pub of_lines : List ℕ → ℕ → List TextLine → Result Listing ℕ
of_lines name end [] = Err end
of_lines name end (l ∷ ls) = do
  list ← said (package_of name) l
  with_lines list ls

-- a list has a class line, or breaks rule 108 at its end
abbrev pub with_class : List ℕ → ℕ → Result Listing ℕ → Result Listing Refusal
with_class name end (Ok list) = if class_count list.lines == 0 then Err (refusal name 108 end) else Ok list
with_class name end (Err k) = Err (refusal name 107 k)

-- what the list of this name with this text says, or the rule that it breaks: 107 at the start of the
-- first malformed line, 108 at the end of a text with no class line
unfoldable pub listed : List ℕ → List ℕ → Result ListTree Refusal
listed name text = with_class name (length text) (of_lines name (length text) (kept_lines text))

-- a decided answer as a call gives it
abbrev pub answer : {A : Type 0} → Result A Refusal → Result A Fault
answer (Ok a) = Ok a
answer (Err r) = Err (faults.Refused r)
