-- What is answered of a method's numbers: nothing where each operand lies where its rules say, else the first that may
-- not.
use Rattle.std.specs.Prelude.{◌≡◌, ℕ, List, Option, Some, None}
use Rattle.cjc_fixpoint.specs.Bytes.declared.breaks.BrokenAt.{BrokenAt}
use Rattle.cjc_types.specs.declared.state.State.{State}
use Rattle.cjc_types.specs.Flow.{Body}
use Rattle.cjc_intervals.specs.Frames.{RangeState}
use Rattle.cjc_intervals.specs.Tables.{FirstBreach, Passes}

-- The rule is that of the first breach, and the offset that of its instruction.
pub record IsFirstBroken (b : Body) (types : List (Option State)) (ranges : List (Option RangeState))
    (broken : BrokenAt) : Type 0 where
  pub place : ℕ
  pub first : FirstBreach b types ranges place broken.rule
  pub is : broken.offset ≡ first.breach.insn.at

-- Nothing is answered where each operand lies where its rules say, else the first breach.
abbrev pub IsFound : Body → List (Option State) → List (Option RangeState) → Option BrokenAt → Type 0
IsFound b types ranges None = Passes b types ranges
IsFound b types ranges (Some broken) = IsFirstBroken b types ranges broken
