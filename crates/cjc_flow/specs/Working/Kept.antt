-- The flow that is solved. It asks the types only at marked places: what goes on to a place without a mark is as it was
-- given. Of the
-- least table that is enough, since there each cell that is no number is full already.
use Rattle.std.specs.Prelude.{ℕ, ◌+◌, nat_lt, if◌then◌else◌, List, [], ◌++◌, map, length, slice_get, get_or, filter_map}
use Rattle.std.specs.Prelude.{Option, Some, None, option_map, ℤ}
use Rattle.cjc_types.specs.ClassFile.declared.tree.Catch.{Catch}
use Rattle.cjc_types.specs.Bytecode.declared.insn.JInsn.{JInsn}
use Rattle.cjc_fixpoint.specs.declared.flow.Edge.{Edge}
use Rattle.cjc_fixpoint.specs.Dataflow.{Dataflow}
use Rattle.cjc_fixpoint.specs.Lattice.{flow_of}
use Rattle.cjc_types.specs.declared.state.State.{State}
use Rattle.cjc_types.specs.Search.{cells_of}
use Rattle.cjc_types.specs.Steps.{goes_on}
use Rattle.cjc_types.specs.Flow.{Body, place_at, successors, covers}
use Rattle.cjc_types.specs.Marks.{is_marked}
use Rattle.cjc_intervals.specs.Frames.{RangeState, states}
use Rattle.cjc_intervals.specs.Steps.{after}
use Rattle.cjc_intervals.specs.Flow.{arrival, caught, entry}

-- a method with its type table, and for each instruction the constant that it gets
pub record Ranged : Type 0 where
  pub body : Body
  pub values : List (Option ℤ)
  pub types : List (Option State)

module _ (r : Ranged) where
  -- what comes to a place: by the types where the place is marked, else as it was given
  abbrev pub kept_arrival : (to : ℕ) → RangeState → RangeState
  kept_arrival to x = if is_marked r.body to then arrival r.body r.types to x else x

  -- the state, as it comes to this place
  abbrev pub kept_edge : RangeState → ℕ → Edge RangeState
  kept_edge x to = record { to = to; state = kept_arrival to x }

  -- what an instruction at this offset hands to the handler: nothing if the handler does not cover it
  abbrev pub kept_handler : (offset : ℕ) → RangeState → Catch → Option (Edge RangeState)
  kept_handler offset x c = if covers c offset then option_map (kept_edge (caught x)) (place_at r.body.insns c.target)
      else None

  -- the constant that the instruction at a place gets
  abbrev pub value_at : ℕ → Option ℤ
  value_at at = get_or r.values at None

  -- the state behind the instruction at a place, with these types before it
  abbrev pub after_at : (at : ℕ) → JInsn → State → RangeState → RangeState
  after_at at insn t x = after (λ _. value_at at) insn.op (cells_of t.stack) x

  -- from an instruction with these types before it: to those that may follow, and to its handlers
  abbrev pub kept_edges : (at : ℕ) → JInsn → State → RangeState → List (Edge RangeState)
  kept_edges at insn t x = map (kept_edge (after_at at insn t x)) (successors r.body.insns at insn.op)
      ++ filter_map (kept_handler insn.at x) r.body.catches

  -- from an instruction that the type table reaches
  abbrev pub kept_place : (at : ℕ) → Option JInsn → Option State → RangeState → List (Edge RangeState)
  kept_place at (Some insn) (Some t) x = kept_edges at insn t x
  kept_place at insn t x = []

  -- the intervals of a method, as they are solved
  abbrev pub kept_flow : Dataflow RangeState
  kept_flow = flow_of (states r.body.max_locals) (entry r.body r.types) (λ at x. kept_place at (slice_get r.body.insns
      at) (get_or r.types at None) x)

  -- what goes on to a place without a mark
  abbrev pub kept_on_by : (at : ℕ) → Option JInsn → Option State → RangeState → Option RangeState
  kept_on_by at (Some insn) (Some t) x = if goes_on insn.op then Some (after_at at insn t x) else None
  kept_on_by at insn t x = None

  -- the same from the place alone; nothing goes on behind the last instruction
  abbrev pub kept_on : (at : ℕ) → RangeState → Option RangeState
  kept_on at x = if nat_lt (at + 1) (length r.body.insns) then kept_on_by at (slice_get r.body.insns at)
      (get_or r.types at None) x else None
