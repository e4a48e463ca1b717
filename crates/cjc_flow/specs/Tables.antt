-- The range table of a method, with rows at its marked places.
use Rattle.std.specs.Prelude.{◌≡◌, ℕ, List, length, Option, ℤ}
use Rattle.cjc_fixpoint.specs.Bytes.declared.fault.MemberId.{MemberId}
use Rattle.cjc_fixpoint.specs.Kept.{StandsForLeast, full}
use Rattle.cjc_types.specs.declared.state.State.{State}
use Rattle.cjc_types.specs.Flow.{Body}
use Rattle.cjc_types.specs.Marks.{marks_of}
use Rattle.cjc_intervals.specs.Frames.{RangeState}
use Rattle.cjc_intervals.specs.Flow.{range_flow}

module _ (b : Body) (constant : MemberId → Option ℤ) (types : List (Option State)) where
  -- The intervals before all instructions, which the rows at marked ones stand for: where an instruction has no mark,
  -- they are what the
  -- instruction before hands on.
  abbrev pub ranges_of : (marks : List ℕ) → (rows : List (Option RangeState)) → List (Option RangeState)
  ranges_of marks rows = full (range_flow b constant types) (length b.insns) marks rows

  -- The table has the marked places with their rows, and stands for the least one.
  pub record IsRangeTable (marks : List ℕ) (rows : List (Option RangeState)) : Type 0 where
    pub are_marks : marks ≡ marks_of b
    pub stands : StandsForLeast (range_flow b constant types) (length b.insns) marks rows
