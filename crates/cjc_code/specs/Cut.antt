-- The instructions that a code is cut into.
use Rattle.std.specs.Prelude.{◌≡◌, ℕ, zero, suc, ◌+◌, List, [], ◌∷◌, ◌++◌, length, Result, Ok, Err}
use Rattle.cjc_bytes.specs.Format.{Spells, Breaks}
use Rattle.cjc_bytes.specs.Rest.{Rest}
use Rattle.cjc_bytes.specs.Reading.{read}
use Rattle.cjc_code.specs.declared.raw.Raw.{Raw}
use Rattle.cjc_code.specs.declared.raw.Cut.{Cut}
use Rattle.cjc_code.specs.Instruction.{instruction}

-- From this place on the bytes are these instructions, each spelt by its bytes at its place; behind them, at
-- `stop`, the bytes end or spell no instruction: the opcode is unknown or an operand is cut.
unfoldable pub IsCutFrom : (place : ℕ) → List ℕ → List Raw → (stop : ℕ) → Type 0
IsCutFrom place bytes [] stop = (stop ≡ place) × ((k : ℕ) × Breaks instruction place bytes k)
IsCutFrom place bytes (i ∷ insns) stop = (front back : List ℕ) × (bytes ≡ front ++ back)
    × Spells instruction place i front × IsCutFrom (place + length front) back insns stop

-- A code is cut into these instructions.
abbrev pub IsCut : List ℕ → Cut → Type 0
IsCut code c = IsCutFrom 0 code c.insns c.stop

-- an instruction before others
abbrev pub put_first : Raw → Cut → Cut
put_first i c = record { insns = i ∷ c.insns; stop = c.stop }

-- an instruction that was read, before those of what is left then; or the end, where none was
abbrev pub cut_on : Result (Raw × Rest) ℕ → (place : ℕ) → (Rest → Cut) → Cut
cut_on (Ok x) place others = put_first x.0 (others x.1)
cut_on (Err k) place others = record { insns = []; stop = place }

-- the instructions at the front of what is left, so many at most, and where they end
unfoldable pub cut_rest : ℕ → Rest → Cut
cut_rest zero r = record { insns = []; stop = r.at }
cut_rest (suc n) r = cut_on (read instruction r) r.at (λ s. cut_rest n s)

-- what a code is cut into: that which `IsCut` says, and nothing else
unfoldable pub cut : List ℕ → Cut
cut code = cut_rest (length code) (record { at = 0; left = code })
