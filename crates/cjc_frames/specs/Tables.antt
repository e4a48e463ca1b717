-- Which rules a method breaks by its least table.
use Rattle.std.specs.Prelude.{◌≡◌, ◌⊎◌, ℕ, ◌<◌, ◌≤◌, List, length, slice_get, Option, Some, None}
use Rattle.cjc_fixpoint.specs.Tables.{HasRow, IsLeastClosed}
use Rattle.cjc_types.specs.declared.state.State.{State}
use Rattle.cjc_frames.specs.Acts.{Subtype, Breaks}
use Rattle.cjc_frames.specs.declared.acts.Step.{Step}
use Rattle.cjc_frames.specs.Flow.{Body, frame_flow}

-- the least table that is closed under the instructions of a method
abbrev pub IsLeastTable : Body → List (Option State) → Type 0
IsLeastTable b rows = IsLeastClosed (frame_flow b) (length b.steps) rows

-- The instruction at this place is reached, and breaks the rule.
pub record Breach (is_of : Subtype) (b : Body) (rows : List (Option State)) (place rule : ℕ) : Type 0 where
  pub step : Step
  pub is_step : slice_get b.steps place ≡ Some step
  pub state : State
  pub reached : HasRow rows place state
  pub breaks : Breaks is_of b.max_stack step.act state rule

-- No breach stands before this one: at an earlier instruction, or by a lower rule at the same.
pub record FirstBreach (is_of : Subtype) (b : Body) (rows : List (Option State)) (place rule : ℕ) : Type 0 where
  pub breach : Breach is_of b rows place rule
  pub first : (other_place other_rule : ℕ) → Breach is_of b rows other_place other_rule → (place < other_place)
      ⊎ ((place ≡ other_place) × (rule ≤ other_rule))

-- No instruction that the least table reaches breaks a rule.
pub record IsUnbroken (is_of : Subtype) (b : Body) : Type 0 where
  pub rows : List (Option State)
  pub least : IsLeastTable b rows
  pub unbroken : (place rule : ℕ) → Breach is_of b rows place rule → ⊥

-- The rule is the first that an instruction breaks which the least table reaches, and the offset is that instruction's.
pub record IsBrokenAt (is_of : Subtype) (b : Body) (offset rule : ℕ) : Type 0 where
  pub rows : List (Option State)
  pub least : IsLeastTable b rows
  pub place : ℕ
  pub first : FirstBreach is_of b rows place rule
  pub is : offset ≡ first.breach.step.at
