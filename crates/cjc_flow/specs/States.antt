-- Stacks of intervals as they are kept: none where ways with stacks of different heights meet.
use Rattle.std.specs.Prelude.{List, Option, Some, None}
use Rattle.cjc_range.specs.Span.{Span}
use Rattle.cjc_intervals.specs.Frames.{StackOf, Cells, Clash}

-- the stack of the intervals that are kept, or a clash where there are none
abbrev pub stack_in : Option (List Span) → StackOf Span
stack_in None = Clash
stack_in (Some cells) = Cells cells
