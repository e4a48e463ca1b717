-- What the lines of a text and the words of a line are, as relations.
use Rattle.std.specs.Prelude.{◌≡◌, ◌==◌, false, ℕ, ◌+◌, ◌<◌, List, [], ◌∷◌, ◌++◌, length, replicate}
use Rattle.std.specs.List.{All}
use Rattle.std.specs.Str.Lines.{StripsCarriageReturn}
use Rattle.cjc_bytes.specs.Text.{TextLine}

-- The byte does not stand in the bytes.
abbrev pub Lacks : ℕ → List ℕ → Type 0
Lacks c bytes = All (λ b. (b == c) ≡ false) bytes

-- The bytes, which stand at this place, are these lines. Each but the last ends with a line feed (10), and
-- one carriage return before it is no part of the line.
unfoldable pub AreLines : ℕ → List TextLine → List ℕ → Type 0
AreLines at [] bytes = ⊥
AreLines at (l ∷ []) bytes = (l.at ≡ at) × (l.text ≡ bytes) × Lacks 10 bytes
AreLines at (l ∷ next ∷ ls) bytes =
    (ended rest : List ℕ) × (bytes ≡ ended ++ 10 ∷ rest) × Lacks 10 ended × (l.at ≡ at)
    × StripsCarriageReturn ended l.text × AreLines (at + length ended + 1) (next ∷ ls) rest

-- One or more bytes, and no space (32).
abbrev pub IsWord : List ℕ → Type 0
IsWord w = (0 < length w) × Lacks 32 w

-- One or more spaces.
abbrev pub IsGap : List ℕ → Type 0
IsGap gap = (n : ℕ) × (gap ≡ 32 ∷ replicate n 32)

-- The line is these words, with a gap between each two.
unfoldable pub AreWords : List (List ℕ) → List ℕ → Type 0
AreWords [] line = line ≡ []
AreWords (w ∷ []) line = (line ≡ w) × IsWord w
AreWords (w ∷ next ∷ ws) line = (gap rest : List ℕ) × (line ≡ w ++ (gap ++ rest)) × IsWord w × IsGap gap
    × AreWords (next ∷ ws) rest
