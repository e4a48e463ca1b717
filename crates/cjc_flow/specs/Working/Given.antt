-- What an instruction does to intervals, where it is known which constant it gets and what the elements of its array
-- are.
use Rattle.std.specs.Prelude.{List, [], ◌∷◌, ◌++◌, drop, Option, Some, None, ℤ}
use Rattle.cjc_range.specs.Span.{Span, full}
use Rattle.cjc_types.specs.Bytecode.declared.insn.JInsn.{JInsn}
use Rattle.cjc_types.specs.Bytecode.declared.insn.JOp.{JOp}
use Rattle.cjc_types.specs.Bytecode.declared.insn.JOp.TheVariants as jop
use Rattle.cjc_types.specs.declared.cell.Cell.{Cell}
use Rattle.cjc_types.specs.declared.state.State.{State}
use Rattle.cjc_types.specs.Steps.{takes}
use Rattle.cjc_types.specs.Steps as typed
use Rattle.cjc_types.specs.Search.{cells_of}
use Rattle.cjc_intervals.specs.Frames.{StackOf, Cells, Clash, RangeState, stack_of}
use Rattle.cjc_intervals.specs.Values.{element_range}
use Rattle.cjc_intervals.specs.Steps.{gives, locals_after}

-- what an array load gives from a stack of these types
abbrev pub element_given : JOp → (types : List Cell) → Span
element_given (jop.ArrayLoad opcode) types = element_range opcode (typed.operand types 1)
element_given _ types = full

-- the same of each instruction, where the types reach it
abbrev pub element_at : JInsn → Option State → Option Span
element_at insn None = None
element_at insn (Some t) = Some (element_given insn.op (cells_of t.stack))

-- the same of all instructions in turn, as far as the rows of the types go
abbrev pub elements_of : List JInsn → (types : List (Option State)) → List (Option Span)
elements_of [] types = []
elements_of (insn ∷ insns) [] = []
elements_of (insn ∷ insns) (row ∷ rows) = element_at insn row ∷ elements_of insns rows

-- the intervals that an instruction puts on the stack
abbrev pub given_by : (value : Option ℤ) → (element : Span) → JOp → (locals stack : List Span) → List Span
given_by value element (jop.ArrayLoad opcode) locals s = element ∷ []
given_by value element op locals s = gives (λ _. value) op [] locals s

-- the stack of intervals behind an instruction
abbrev pub behind_by : (value : Option ℤ) → (element : Span) → JOp → (locals stack : List Span) → List Span
behind_by value element op locals s = given_by value element op locals s ++ drop (takes op) s

-- the stack behind an instruction; a clash stays one, and a stack higher than any of a least type table becomes one
abbrev pub stack_by : (value : Option ℤ) → (element : Span) → JOp → (locals : List Span) → StackOf Span → StackOf Span
stack_by value element op locals Clash = Clash
stack_by value element op locals (Cells s) = stack_of (behind_by value element op locals s)

-- the intervals of a frame behind an instruction
abbrev pub after_by : (value : Option ℤ) → (element : Span) → JOp → RangeState → RangeState
after_by value element op x = record {
  stack = stack_by value element op x.locals x.stack;
  locals = locals_after op x.locals x.stack;
}
