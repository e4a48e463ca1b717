-- What range tables ask of the rows.
use Rattle.std.specs.Prelude.{◌≡◌, ◌≢◌, ℤ, pos}
use Rattle.cjc_range.specs.Span.{Span, Holds, Within, IsWord}

-- operands inside wider ones give a result inside
abbrev pub IsMonotone : (Span → Span → Span) → Type 0
IsMonotone row =
    (s t u v : Span) → IsWord s → IsWord t → IsWord u → IsWord v → Within s u → Within t v → Within (row s t) (row u v)

-- the same of a row with one operand
abbrev pub IsMonotoneAlone : (Span → Span) → Type 0
IsMonotoneAlone row = (s t : Span) → IsWord s → IsWord t → Within s t → Within (row s) (row t)

-- the same of a row that is a relation
abbrev pub IsMonotoneRelation : (Span → Span → Span → Type 0) → Type 0
IsMonotoneRelation IsRow =
    (s t u v q r : Span) → IsWord s → IsWord t → IsWord u → IsWord v → Within s u → Within t v → IsRow s t q
    → IsRow u v r → Within q r

-- numbers of 32 bits give numbers of 32 bits
abbrev pub GivesWords : (Span → Span → Span) → Type 0
GivesWords row = (s t : Span) → IsWord s → IsWord t → IsWord (row s t)

-- the same of a row with one operand
abbrev pub GivesWordsAlone : (Span → Span) → Type 0
GivesWordsAlone row = (s : Span) → IsWord s → IsWord (row s)

-- the function gives the one span that the relation allows
pub record IsFunctionOf (IsRow : Span → Span → Span → Type 0) (row : Span → Span → Span) : Type 0 where
  pub fits : (s t : Span) → IsWord s → IsWord t → IsRow s t (row s t)
  pub only : (s t r : Span) → IsWord s → IsWord t → IsRow s t r → r ≡ row s t

-- the row holds what the operation gives on each number of the one operand with each of the other
abbrev pub HoldsResults : (Span → Span → Span) → (ℤ → ℤ → ℤ) → Type 0
HoldsResults row operation = (s t : Span) (x y : ℤ) → IsWord s → IsWord t → Holds s x → Holds t y
    → Holds (row s t) (operation x y)

-- the same of a row with one operand
abbrev pub HoldsResultsAlone : (Span → Span) → (ℤ → ℤ) → Type 0
HoldsResultsAlone row operation = (s : Span) (x : ℤ) → IsWord s → Holds s x → Holds (row s) (operation x)

-- the same of an operation that gives nothing where the right number is 0
abbrev pub HoldsResultsButZero : (Span → Span → Span) → (ℤ → ℤ → ℤ) → Type 0
HoldsResultsButZero row operation =
    (s t : Span) (x y : ℤ) → IsWord s → IsWord t → Holds s x → Holds t y → y ≢ pos 0 → Holds (row s t) (operation x y)
