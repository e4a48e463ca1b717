-- What is known of the numbers of a frame: an interval for each cell of its operand stack and for each local.
use Rattle.std.specs.Prelude.{ℕ, List, []}
use Rattle.cjc_range.specs.Span.{Span, Within, IsWord, width}
use Rattle.cjc_range.specs.Rows.{join_row}
use Rattle.cjc_fixpoint.specs.Lattice.{Lattice, lists_of, parts_of}
pub use Rattle.cjc_types.specs.Stacks.{StackOf, Cells, Clash, stack_of, IsCellStack, IsStack, IsBelowCells}
pub use Rattle.cjc_types.specs.Stacks.{IsStackAbove, IsStackBelow, joined_stack, clash_rank, stack_rank, stacks_of}

-- ---- intervals

-- An interval is below each that it is a part of.
abbrev pub spans : Lattice Span
spans = record { Own = IsWord; Below = Within; join = join_row; rank = width; height = 4294967295 }

-- the intervals of a frame's operand stack, or that ways with stacks of different heights meet, and those of its locals
pub record RangeState : Type 0 where
  pub stack : StackOf Span
  pub locals : List Span

-- the intervals of a stack; of a clash none is known
abbrev pub spans_of : StackOf Span → List Span
spans_of (Cells s) = s
spans_of Clash = []

-- the states of a method with so many locals
abbrev pub states : ℕ → Lattice RangeState
states max_locals = parts_of (stacks_of spans) (lists_of spans max_locals) (λ (s : RangeState). s.stack)
    (λ (s : RangeState). s.locals) (λ stack locals. record { stack = stack; locals = locals })
