-- The intervals of a method's numbers as a dataflow problem over its type table, whose places are its instructions.
use Rattle.std.specs.Prelude.{ℕ, Bool, ◌||◌, if◌then◌else◌, List, [], ◌∷◌, ◌++◌, map, take, replicate, slice_get}
use Rattle.std.specs.Prelude.{get_or, filter_map, Option, Some, None, option_map, ℤ}
use Rattle.cjc_bytes.specs.AccessFlags.{is_static}
use Rattle.cjc_bytes.specs.declared.fault.MemberId.{MemberId}
use Rattle.cjc_range.specs.Span.{Span, full}
use Rattle.cjc_range.specs.Landmarks.{round_row}
use Rattle.cjc_types.specs.ClassFile.declared.tree.Catch.{Catch}
use Rattle.cjc_types.specs.Bytecode.declared.insn.JInsn.{JInsn}
use Rattle.cjc_fixpoint.specs.declared.flow.Edge.{Edge}
use Rattle.cjc_fixpoint.specs.Dataflow.{Dataflow}
use Rattle.cjc_fixpoint.specs.Lattice.{flow_of}
use Rattle.cjc_types.specs.declared.cell.Cell.{Cell}
use Rattle.cjc_types.specs.declared.state.State.{State}
use Rattle.cjc_types.specs.Types.{parts}
use Rattle.cjc_types.specs.Rules.{is_number}
use Rattle.cjc_types.specs.Search.{cells_of}
use Rattle.cjc_types.specs.Flow.{Body, place_at, successors, covers}
use Rattle.cjc_types.specs.Marks.{is_jumped_to, is_handler}
use Rattle.cjc_intervals.specs.Frames.{StackOf, Cells, Clash, RangeState, states}
use Rattle.cjc_intervals.specs.Values.{range_of}
use Rattle.cjc_intervals.specs.Steps.{after}

-- ---- arrival

-- each interval is moved outwards to the landmarks
abbrev pub rounded_stack : StackOf Span → StackOf Span
rounded_stack (Cells s) = Cells (map round_row s)
rounded_stack Clash = Clash

-- each interval of the stack and of the locals is moved outwards to the landmarks
abbrev pub rounded : RangeState → RangeState
rounded x = record { stack = rounded_stack x.stack; locals = map round_row x.locals }

-- a jump or switch leads to the place, or a handler begins there, whether that is reached or not
abbrev pub is_target : Body → (at : ℕ) → Bool
is_target b at = is_jumped_to b at || is_handler b at

-- an interval where the cell is a number; any other cell is full
abbrev pub number_range : Cell → Span → Span
number_range cell s = if is_number cell then s else full

-- the same of each; an interval without a cell is full
abbrev pub number_ranges : List Cell → List Span → List Span
number_ranges cells [] = []
number_ranges [] (s ∷ ss) = full ∷ number_ranges [] ss
number_ranges (cell ∷ cells) (s ∷ ss) = number_range cell s ∷ number_ranges cells ss

-- the same of a stack; a clash stays one
abbrev pub stack_of_types : List Cell → StackOf Span → StackOf Span
stack_of_types cells (Cells s) = Cells (number_ranges cells s)
stack_of_types cells Clash = Clash

-- by what the type table says of the place
abbrev pub by_types : Option State → RangeState → RangeState
by_types None x = x
by_types (Some t) x = record {
  stack = stack_of_types (cells_of t.stack) x.stack;
  locals = number_ranges t.locals x.locals;
}

-- What comes to a place is rounded where ways may meet by a jump, a switch or a handler, and a cell that is no number
-- there is full.
abbrev pub arrival : Body → (types : List (Option State)) → (to : ℕ) → RangeState → RangeState
arrival b types to x = by_types (get_or types to None) (if is_target b to then rounded x else x)

-- ---- the entry

-- the receiver of a method that is not static, and the parameters
abbrev pub argument_ranges : Body → List Span
argument_ranges b = (if is_static b.flags then [] else full ∷ []) ++ map range_of (parts b.desc).params

-- how a method begins: an empty stack, the arguments in the first locals
abbrev pub first_state : Body → RangeState
first_state b = record {
  stack = Cells [];
  locals = take b.max_locals (argument_ranges b ++ replicate b.max_locals full);
}

-- before the first instruction
abbrev pub entry : Body → (types : List (Option State)) → RangeState
entry b types = arrival b types 0 (first_state b)

-- ---- the flow

-- the state, as it comes to this place
abbrev pub edge : Body → (types : List (Option State)) → RangeState → ℕ → Edge RangeState
edge b types x to = record { to = to; state = arrival b types to x }

-- the state before, with the exception as the stack
abbrev pub caught : RangeState → RangeState
caught x = record { stack = Cells (full ∷ []); locals = x.locals }

-- what an instruction at this offset hands to the handler: nothing if the handler does not cover it
abbrev pub handler_edge : Body → (types : List (Option State)) → (offset : ℕ) → RangeState → Catch
    → Option (Edge RangeState)
handler_edge b types offset x c = if covers c offset then option_map (edge b types (caught x))
    (place_at b.insns c.target) else None

module _ (b : Body) (constant : MemberId → Option ℤ) (types : List (Option State)) where
  -- from an instruction with these types before it: to those that may follow, and to its handlers
  abbrev pub insn_edges : (at : ℕ) → JInsn → State → RangeState → List (Edge RangeState)
  insn_edges at insn t x = map (edge b types (after constant insn.op (cells_of t.stack) x)) (successors b.insns at
      insn.op) ++ filter_map (handler_edge b types insn.at x) b.catches

  -- from an instruction that the type table reaches
  abbrev pub place_edges : (at : ℕ) → Option JInsn → Option State → RangeState → List (Edge RangeState)
  place_edges at (Some insn) (Some t) x = insn_edges at insn t x
  place_edges at insn t x = []

  -- The intervals of a method: an instruction hands on the state behind it to those that may follow, and the state
  -- before it to its
  -- handlers. A constant is told by the field that an instruction names.
  abbrev pub range_flow : Dataflow RangeState
  range_flow = flow_of (states b.max_locals) (entry b types) (λ at x. place_edges at (slice_get b.insns at)
      (get_or types at None) x)
