-- What comes to a place, interval by interval.
use Rattle.std.specs.Prelude.{ℕ, Bool, if◌then◌else◌, List, map, Option, Some, None}
use Rattle.cjc_range.specs.Span.{Span}
use Rattle.cjc_range.specs.Landmarks.{round_row}
use Rattle.cjc_types.specs.declared.cell.Cell.{Cell}
use Rattle.cjc_types.specs.Steps as typed
use Rattle.cjc_intervals.specs.Frames.{StackOf, Cells, Clash}
use Rattle.cjc_intervals.specs.Flow.{number_range, number_ranges}

-- each interval, moved outwards to the landmarks where this is asked
abbrev pub rounded_cells : Bool → List Span → List Span
rounded_cells rounds s = if rounds then map round_row s else s

-- an interval, moved outwards to the landmarks where this is asked
abbrev pub rounded_span : Bool → Span → Span
rounded_span rounds s = if rounds then round_row s else s

-- by the types of these cells, where there are any
abbrev pub known_in : Option (List Cell) → (k : ℕ) → Span → Span
known_in None k s = s
known_in (Some types) k s = number_range (typed.operand types k) s

-- each interval by the type of its cell, where types are known
abbrev pub all_known : Option (List Cell) → List Span → List Span
all_known None s = s
all_known (Some types) s = number_ranges types s

-- a stack that is rounded where this is asked, and then by the types, where they are known; a clash stays one
abbrev pub stack_known : Option (List Cell) → Bool → StackOf Span → StackOf Span
stack_known types rounds Clash = Clash
stack_known types rounds (Cells s) = Cells (all_known types (rounded_cells rounds s))
