-- The types of a method as a dataflow problem, whose places are its instructions.
use Rattle.std.specs.Prelude.{ℕ, ◌+◌, ◌==◌, ◌&&◌, nat_lt, nat_le, Bool, true, false, List, [], ◌∷◌, ◌++◌, map}
use Rattle.std.specs.Prelude.{filter_map, length, take, replicate, position, slice_get, option_map, option_to_list}
use Rattle.std.specs.Prelude.{Option, Some, None, if◌then◌else◌}
use Rattle.cjc_fixpoint.specs.declared.flow.Edge.{Edge}
use Rattle.cjc_fixpoint.specs.Dataflow.{Dataflow}
use Rattle.cjc_fixpoint.specs.Lattice.{flow_of}
use Rattle.cjc_types.specs.declared.cell.Cell.{Cell}
use Rattle.cjc_types.specs.declared.cell.Cell.TheVariants.{Number, Refs, Unusable}
use Rattle.cjc_types.specs.declared.state.Stack.TheVariants.{Cells}
use Rattle.cjc_types.specs.declared.state.State.{State}
use Rattle.cjc_types.specs.States.{states}
use Rattle.cjc_frames.specs.declared.acts.Given.{Given}
use Rattle.cjc_frames.specs.declared.acts.Act.{Act}
use Rattle.cjc_frames.specs.declared.acts.Step.{Step}
use Rattle.cjc_frames.specs.declared.acts.Catch.{Catch}
use Rattle.cjc_frames.specs.Acts.{given, after}

-- ---- methods

-- what is read of a method with code
pub record Body : Type 0 where
  pub max_stack : ℕ
  -- the cells of the locals, the arguments counted
  pub local_count : ℕ
  -- the words of the arguments, the receiver first
  pub arguments : List Given
  pub steps : List Step
  -- those of all methods, in the order of the table
  pub catches : List Catch

-- ---- the entry

-- before the first instruction: an empty stack, the arguments in the first locals, and the others unusable
abbrev pub entry : Body → State
entry b = record {
  stack = Cells [];
  locals = take b.local_count (map (given [] []) b.arguments ++ replicate b.local_count Unusable);
}

-- ---- where an instruction goes

-- the place of the instruction at an offset
abbrev pub place_at : List Step → (offset : ℕ) → Option ℕ
place_at steps offset = position (λ (s : Step). s.at == offset) steps

-- the place behind, where the instruction there may follow
abbrev pub next_place : (falls : Bool) → (places at : ℕ) → List ℕ
next_place true places at = if nat_lt (at + 1) places then (at + 1) ∷ [] else []
next_place false places at = []

-- the places of the instructions that may follow
abbrev pub successors : List Step → (at : ℕ) → Act → List ℕ
successors steps at a = next_place a.falls (length steps) at ++ filter_map (place_at steps) a.targets

-- the state, handed to this place
abbrev pub edge : State → ℕ → Edge State
edge state to = record { to = to; state = state }

-- ---- handlers

-- the handler covers the offset
abbrev pub covers : Catch → (offset : ℕ) → Bool
covers c offset = nat_le c.start offset && nat_lt offset (c.start + c.length)

-- the state before, with the exception as the stack
abbrev pub caught : Catch → State → State
caught c x = record { stack = Cells (Refs (option_to_list c.caught) ∷ []); locals = x.locals }

-- what an instruction at this offset hands to a handler: nothing where that does not cover it
abbrev pub handler_edge : List Step → (offset : ℕ) → State → Catch → Option (Edge State)
handler_edge steps offset x c = if covers c offset then option_map (edge (caught c x)) (place_at steps c.target)
    else None

-- ---- the flow

-- what an instruction hands to those that may follow, and to the handlers that cover it
abbrev pub step_edges : Body → (at : ℕ) → Step → (ends : Bool) → State → List (Edge State)
step_edges b at s true x = []
step_edges b at s false x = map (edge (after s.act x)) (successors b.steps at s.act)
    ++ filter_map (handler_edge b.steps s.at x) b.catches

-- what is handed on from a place; where there is no instruction, nothing
abbrev pub place_edges : Body → (at : ℕ) → Option Step → State → List (Edge State)
place_edges b at None x = []
place_edges b at (Some s) x = step_edges b at s (let a = s.act in a.ends) x

-- The types of a method: an instruction hands on the state behind it to those that may follow, and the state before it
-- to its handlers.
abbrev pub frame_flow : Body → Dataflow State
frame_flow b = flow_of (states b.local_count) (entry b) (λ at x. place_edges b at (slice_get b.steps at) x)
