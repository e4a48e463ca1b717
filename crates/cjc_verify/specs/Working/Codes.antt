-- Instructions that stand one behind the other, each of a byte at least.
use Rattle.std.specs.Prelude.{◌≡◌, ◌<◌, ℕ, List, map, slice_get, Some}
use Rattle.cjc_capread.specs.Decode.{Instruction}
use Rattle.cjc_check_rules.specs.Codes.{Code}
use Rattle.cjc_check_rules.specs.Spots.{Placed}

-- of two numbers the later one is above the other
abbrev pub Ascend : List ℕ → Type 0
Ascend xs = (i j x y : ℕ) → slice_get xs i ≡ Some x → slice_get xs j ≡ Some y → i < j → x < y

-- where instructions begin
abbrev pub ats : List (Placed Instruction) → List ℕ
ats is = map (λ (p : Placed Instruction). p.at) is

-- those of each of these codes begin so
abbrev pub AllAscend : List Code → Type 0
AllAscend codes = (k : ℕ) (code : Code) → slice_get codes k ≡ Some code → Ascend (ats code.instructions)
