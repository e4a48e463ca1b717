-- The least range table of a method over its least type table, and the operands that break a rule there.
use Rattle.std.specs.Prelude.{◌≡◌, ◌⊎◌, ◌<◌, ◌≤◌, ℕ, List, length, slice_get, Option, Some, ℤ}
use Rattle.cjc_bytes.specs.declared.fault.MemberId.{MemberId}
use Rattle.cjc_range.specs.Span.{Span, Within}
use Rattle.cjc_types.specs.Bytecode.declared.insn.JInsn.{JInsn}
use Rattle.cjc_fixpoint.specs.Tables.{HasRow, IsClosed, IsLeastClosed}
use Rattle.cjc_types.specs.declared.state.State.{State}
use Rattle.cjc_types.specs.Search.{cells_of}
use Rattle.cjc_types.specs.Flow.{Body}
use Rattle.cjc_intervals.specs.Frames.{spans_of, RangeState}
use Rattle.cjc_intervals.specs.Steps.{operand}
use Rattle.cjc_intervals.specs.Flow.{range_flow}
use Rattle.cjc_intervals.specs.Bounds.{Bounds}

module _ (b : Body) (constant : MemberId → Option ℤ) (types : List (Option State)) where
  -- closed under the instructions of the method
  abbrev pub IsClosedRanges : List (Option RangeState) → Type 0
  IsClosedRanges ranges = IsClosed (range_flow b constant types) (length b.insns) ranges

  -- the least such table
  abbrev pub IsLeastRanges : List (Option RangeState) → Type 0
  IsLeastRanges ranges = IsLeastClosed (range_flow b constant types) (length b.insns) ranges

-- An operand of the instruction at this place, which both tables reach, may lie outside of what the rule allows.
pub record Breach (b : Body) (types : List (Option State)) (ranges : List (Option RangeState)) (place rule : ℕ) :
    Type 0 where
  pub insn : JInsn
  pub is_insn : slice_get b.insns place ≡ Some insn
  pub typed : State
  pub has_types : HasRow types place typed
  pub ranged : RangeState
  pub has_ranges : HasRow ranges place ranged
  pub k : ℕ
  pub bound : Span
  pub bounds : Bounds b insn.op (cells_of typed.stack) rule k bound
  pub outside : Within (operand (spans_of ranged.stack) k) bound → ⊥

-- No breach stands before this one: at an earlier instruction, or by a lower rule at the same.
pub record FirstBreach (b : Body) (types : List (Option State)) (ranges : List (Option RangeState)) (place rule : ℕ) :
    Type 0 where
  pub breach : Breach b types ranges place rule
  pub first : (other_place other_rule : ℕ) → Breach b types ranges other_place other_rule → (place < other_place)
      ⊎ ((place ≡ other_place) × (rule ≤ other_rule))

-- each operand lies where its rules say
abbrev pub Passes : Body → List (Option State) → List (Option RangeState) → Type 0
Passes b types ranges = (place rule : ℕ) → Breach b types ranges place rule → ⊥
