-- Which packages a text names, and where it breaks the grammar.
use Rattle.std.specs.Prelude.{◌≡◌, ◌⊎◌, ◌<◌, ◌≤◌, ℕ, List, [], ◌∷◌, ◌++◌, length}
use Rattle.cjc_bytes.specs.Text.{TextLine, kept_lines}
use Rattle.cjc_bytes.specs.Refused.{refusal}
use Rattle.cjc_bytes.specs.declared.fault.Fault.{Fault}
use Rattle.cjc_bytes.specs.declared.fault.Fault.TheVariants as faults
use Rattle.cjc_bytes.specs.declared.fault.Refusal.{Refusal}
use Rattle.cjc_list.specs.Spelling.{HasWords}
use Rattle.cjc_group.specs.declared.line.PackageLine.{PackageLine}

-- The words are `LIST DIR` of the package.
abbrev pub Says : PackageLine → List (List ℕ) → Type 0
Says p ws = ws ≡ p.list ∷ p.folder ∷ []

-- Each line names its package.
abbrev pub AllSay : List PackageLine → List TextLine → Type 0
AllSay [] [] = Unit {0}
AllSay [] (l ∷ ls) = ⊥
AllSay (p ∷ ps) [] = ⊥
AllSay (p ∷ ps) (l ∷ ls) = HasWords l (Says p) × AllSay ps ls

-- The lines name at most 16 packages: they are the beginning of some group, or a whole one.
abbrev pub IsBeginning : List TextLine → Type 0
IsBeginning lines = (ps : List PackageLine) × AllSay ps lines × (length ps ≤ 16)

-- The line at k is the first with which the lines are no longer the beginning of a group.
abbrev pub IsMalformedAt : List TextLine → ℕ → Type 0
IsMalformedAt lines k =
    (before after : List TextLine) × (l : TextLine) × (lines ≡ before ++ l ∷ after) × IsBeginning before
    × (¬ IsBeginning (before ++ l ∷ [])) × (k ≡ l.at)

-- The text names these packages, of which there are 1 to 16.
pub record IsSpelt (ps : List PackageLine) (text : List ℕ) : Type 0 where
  pub says : AllSay ps (kept_lines text)
  pub some : 0 < length ps
  pub within : length ps ≤ 16

-- The text breaks rule 109 at its first malformed line, or at its end where it has no line.
abbrev pub IsBroken : (name text : List ℕ) → Refusal → Type 0
IsBroken name text r =
    ((k : ℕ) × IsMalformedAt (kept_lines text) k × (r ≡ refusal name 109 k))
    ⊎ ((kept_lines text ≡ []) × (r ≡ refusal name 109 (length text)))

-- The error says where the text breaks the rule, or that memory ran out.
abbrev pub SaysBroken : (name text : List ℕ) → Fault → Type 0
SaysBroken name text e = (e ≡ faults.NoMemory) ⊎ ((r : Refusal) × IsBroken name text r × (e ≡ faults.Refused r))
