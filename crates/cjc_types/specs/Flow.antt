-- The types of a method as a dataflow problem, whose places are its instructions.
use Rattle.std.specs.Prelude.{ℕ, ◌+◌, Bool, true, false, ◌==◌, ◌&&◌, nat_lt, nat_le, if◌then◌else◌, List, [], ◌∷◌, ◌++◌}
use Rattle.std.specs.Prelude.{map, length, take, replicate, position, slice_get, filter_map, Option, Some, None}
use Rattle.std.specs.Prelude.{option_map, codes}
use Rattle.cjc_classfile.specs.Code.{CodeTree}
use Rattle.cjc_classfile.specs.declared.tree.Catch.{Catch}
use Rattle.cjc_classfile.specs.declared.tree.ClassTree.{ClassTree}
use Rattle.cjc_classfile.specs.declared.tree.MethodTree.{MethodTree}
use Rattle.cjc_code.specs.declared.insn.JInsn.{JInsn}
use Rattle.cjc_code.specs.declared.insn.JOp.{JOp}
use Rattle.cjc_fixpoint.specs.declared.flow.Edge.{Edge}
use Rattle.cjc_fixpoint.specs.Dataflow.{Dataflow}
use Rattle.cjc_fixpoint.specs.Lattice.{flow_of}
use Rattle.cjc_bytes.specs.AccessFlags.{is_static}
use Rattle.cjc_types.specs.declared.cell.Cell.{Cell}
use Rattle.cjc_types.specs.declared.cell.Cell.TheVariants.{Refs, Unusable}
use Rattle.cjc_types.specs.declared.state.Stack.TheVariants.{Cells}
use Rattle.cjc_types.specs.declared.state.State.{State}
use Rattle.cjc_types.specs.States.{states}
use Rattle.cjc_types.specs.Types.{parts, value_of}
use Rattle.cjc_types.specs.Steps.{after, goes_on, targets}

-- what inference reads of a method with code
pub record Body : Type 0 where
  -- the class that holds the method
  pub class : List ℕ
  pub flags : ℕ
  pub desc : List ℕ
  pub max_stack : ℕ
  pub max_locals : ℕ
  pub catches : List Catch
  pub insns : List JInsn

-- what inference reads of this method of a class, with its code and the instructions decoded from it
abbrev pub body_of : ClassTree → MethodTree → CodeTree → List JInsn → Body
body_of class method code insns = record {
  class = class.name;
  flags = method.flags;
  desc = method.desc;
  max_stack = code.max_stack;
  max_locals = code.max_locals;
  catches = code.catches;
  insns = insns;
}

-- ---- the entry

-- the receiver of a method that is not static, and the parameters
abbrev pub arguments : Body → List Cell
arguments b = (if is_static b.flags then [] else Refs (b.class ∷ []) ∷ []) ++ map value_of (parts b.desc).params

-- before the first instruction: an empty stack, the arguments in the first locals, and the other locals unusable
abbrev pub entry : Body → State
entry b = record { stack = Cells []; locals = take b.max_locals (arguments b ++ replicate b.max_locals Unusable) }

-- ---- where an instruction goes

-- the place of the instruction at an offset
abbrev pub place_at : List JInsn → (offset : ℕ) → Option ℕ
place_at insns offset = position (λ i. i.at == offset) insns

-- the place behind, if execution may fall through to it and there is one
abbrev pub next_place : (goes_on : Bool) → (places at : ℕ) → List ℕ
next_place true places at = if nat_lt (at + 1) places then (at + 1) ∷ [] else []
next_place false places at = []

-- the places of the instructions that may follow
abbrev pub successors : List JInsn → (at : ℕ) → JOp → List ℕ
successors insns at op = next_place (goes_on op) (length insns) at ++ filter_map (place_at insns) (targets op)

-- the state, handed to this place
abbrev pub edge : State → ℕ → Edge State
edge state to = record { to = to; state = state }

-- ---- handlers

-- whether the handler is that of the instruction at this offset
abbrev pub covers : Catch → (offset : ℕ) → Bool
covers c offset = nat_le c.start offset && nat_lt offset c.end

-- the type of the exception; of a handler of any the root of all
abbrev pub caught_type : Option (List ℕ) → List ℕ
caught_type (Some class) = class
caught_type None = codes "java/lang/Throwable"

-- the state before, with the exception as the stack
abbrev pub caught : Catch → State → State
caught c x = record { stack = Cells (Refs (caught_type c.class ∷ []) ∷ []); locals = x.locals }

-- what an instruction at this offset hands to the handler: nothing if the handler does not cover it
abbrev pub handler_edge : List JInsn → (offset : ℕ) → State → Catch → Option (Edge State)
handler_edge insns offset x c = if covers c offset then option_map (edge (caught c x)) (place_at insns c.target)
    else None

-- ---- the flow

-- what an instruction hands to those that may follow, and to the handlers that cover it
abbrev pub insn_edges : Body → (at : ℕ) → JInsn → State → List (Edge State)
insn_edges b at insn x = map (edge (after insn.op x)) (successors b.insns at insn.op)
    ++ filter_map (handler_edge b.insns insn.at x) b.catches

-- what is handed on from a place; where there is no instruction, nothing
abbrev pub place_edges : Body → (at : ℕ) → Option JInsn → State → List (Edge State)
place_edges b at None x = []
place_edges b at (Some insn) x = insn_edges b at insn x

-- The types of a method: an instruction hands on the state behind it to those that may follow, and the state before it
-- to its handlers.
abbrev pub type_flow : Body → Dataflow State
type_flow b = flow_of (states b.max_locals) (entry b) (λ at x. place_edges b at (slice_get b.insns at) x)
