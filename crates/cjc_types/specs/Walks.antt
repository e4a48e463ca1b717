-- Going through the frames of a method.
use Rattle.std.specs.Prelude.{◌≡◌, ℕ, length, Option, option_map}
use Rattle.cjc_fixpoint.specs.Walks.{IsNext, IsWalk, Walking}
use Rattle.cjc_types.specs.declared.state.State.{State}
use Rattle.cjc_types.specs.declared.table.Frame.{Frame}
use Rattle.cjc_types.specs.declared.table.TypeTable.{TypeTable}
use Rattle.cjc_types.specs.Flow.{Body, type_flow}
use Rattle.cjc_types.specs.Marks.{marks_of}
use Rattle.cjc_types.specs.Tables.{state_of, states_of, rows_of}
use Rattle.cjc_types.specs.Typed.{AreFrames}

-- a place with the state before its instruction, by its frame
abbrev pub place_state : ℕ × Option Frame → ℕ × Option State
place_state (place, frame) = (place, option_map state_of frame)

-- what is given: the place that was next with its frame, or that no place is next
abbrev pub IsNextFrame : Walking State → Walking State → Option (ℕ × Option Frame) → Type 0
IsNextFrame old new given = IsNext old new (option_map place_state given)

-- What holds between two calls: `mark` marks lie before the place `at`, which is handed this frame where it has no
-- mark.
pub record IsTypeWalk (b : Body) (types : TypeTable) (at mark : ℕ) (handed : Option Frame) : Type 0 where
  pub framed : AreFrames (rows_of b types)
  pub marks : types.marks ≡ marks_of b
  pub walk : IsWalk (type_flow b) (length b.insns) types.marks (states_of types.frames) at mark
      (option_map state_of handed)
