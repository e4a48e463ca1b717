-- The intervals that each instruction gives, and what it does to those of locals. Stacks have their top first.
use Rattle.std.specs.Prelude.{ℕ, Bool, true, false, ◌==◌, if◌then◌else◌, List, [], ◌∷◌, ◌++◌, map, drop, get_or}
use Rattle.std.specs.Prelude.{slice_set, Option, Some, None, ℤ}
use Rattle.cjc_bytes.specs.Descriptor.{Part}
use Rattle.cjc_bytes.specs.declared.fault.MemberId.{MemberId}
use Rattle.cjc_range.specs.Span.{Span, full}
use Rattle.cjc_range.specs.Rows.{add_row, sub_row, mul_row, neg_row, div_row, rem_row, shl_row, shr_row, ushr_row}
use Rattle.cjc_range.specs.Rows.{and_row, or_row, to_byte_row, to_short_row}
use Rattle.cjc_types.specs.Bytecode.declared.insn.JOp.{JOp}
use Rattle.cjc_types.specs.Bytecode.declared.insn.JOp.TheVariants as jop
use Rattle.cjc_types.specs.Bytecode.Jvm as jvm
use Rattle.cjc_types.specs.declared.cell.Cell.{Cell}
use Rattle.cjc_types.specs.Types.{parts}
use Rattle.cjc_types.specs.Steps.{takes, shuffled}
use Rattle.cjc_types.specs.Steps as typed
use Rattle.cjc_intervals.specs.Frames.{StackOf, Cells, Clash, RangeState, stack_of}
use Rattle.cjc_intervals.specs.Values.{exactly, boolean_range, length_range, result_ranges, element_range}

-- the interval at a place, from the top or of a local; one that is missing is full
abbrev pub operand : List Span → ℕ → Span
operand cells k = get_or cells k full

-- ---- what is given

-- arithmetic, shifts and logic of two operands
abbrev pub two_operands : (opcode : ℕ) → (left right : Span) → Span
two_operands opcode s t =
    if opcode == jvm.iadd then add_row s t
    else if opcode == jvm.isub then sub_row s t
    else if opcode == jvm.imul then mul_row s t
    else if opcode == jvm.idiv then div_row s t
    else if opcode == jvm.irem then rem_row s t
    else if opcode == jvm.ishl then shl_row s t
    else if opcode == jvm.ishr then shr_row s t
    else if opcode == jvm.iushr then ushr_row s t
    else if opcode == jvm.iand then and_row s t
    else if opcode == jvm.ior then or_row s t
    else if opcode == jvm.ixor then or_row s t
    else full

-- ineg has one operand
abbrev pub arithmetic : (opcode : ℕ) → (stack : List Span) → Span
arithmetic opcode s = if opcode == jvm.ineg then neg_row (operand s 0) else two_operands opcode (operand s 1)
    (operand s 0)

-- i2b and i2s
abbrev pub narrowed : (opcode : ℕ) → Span → Span
narrowed opcode s = if opcode == jvm.i2b then to_byte_row s else to_short_row s

-- iload gives the number of the local
abbrev pub loaded : (refs : Bool) → Span → Span
loaded true s = full
loaded false s = s

-- a constant is its number, another field what its type has
abbrev pub field_range : Option ℤ → Part → List Span
field_range (Some z) p = exactly z ∷ []
field_range None p = result_ranges p

module _ (constant : MemberId → Option ℤ) where
  -- the intervals that an instruction puts on the stack, the top first; before it the stack has these types
  abbrev pub gives : JOp → (types : List Cell) → (locals stack : List Span) → List Span
  gives jop.Nop types locals s = []
  gives jop.Null types locals s = full ∷ []
  gives (jop.Number z) types locals s = exactly z ∷ []
  gives (jop.Load refs k) types locals s = loaded refs (operand locals k) ∷ []
  gives (jop.Store refs k) types locals s = []
  gives (jop.ArrayLoad opcode) types locals s = element_range opcode (typed.operand types 1) ∷ []
  gives (jop.ArrayStore opcode) types locals s = []
  gives (jop.Stack opcode) types locals s = map (operand s) (shuffled opcode)
  gives (jop.Arith opcode) types locals s = arithmetic opcode s ∷ []
  gives (jop.Inc k by) types locals s = []
  gives (jop.Narrow opcode) types locals s = narrowed opcode (operand s 0) ∷ []
  gives (jop.If opcode target) types locals s = []
  gives (jop.Goto target) types locals s = []
  gives (jop.TableSwitch other low targets) types locals s = []
  gives (jop.LookupSwitch other cases) types locals s = []
  gives (jop.Return opcode) types locals s = []
  gives (jop.Static put field) types locals s = if put then []
      else field_range (constant field) (parts field.desc).result
  gives (jop.Field put field) types locals s = if put then [] else result_ranges (parts field.desc).result
  gives (jop.Call opcode method) types locals s = result_ranges (parts method.desc).result
  gives (jop.New class) types locals s = full ∷ []
  gives (jop.NewArray number) types locals s = full ∷ []
  gives (jop.ANewArray class) types locals s = full ∷ []
  gives jop.ArrayLength types locals s = length_range ∷ []
  gives jop.Throw types locals s = []
  gives (jop.CheckCast class) types locals s = full ∷ []
  gives (jop.InstanceOf class) types locals s = boolean_range ∷ []

  -- the stack behind an instruction
  abbrev pub stack_behind : JOp → (types : List Cell) → (locals stack : List Span) → List Span
  stack_behind op types locals s = gives op types locals s ++ drop (takes op) s

  -- A clash stays one past every instruction.
  abbrev pub stack_after : JOp → (types : List Cell) → (locals : List Span) → StackOf Span → StackOf Span
  stack_after op types locals Clash = Clash
  stack_after op types locals (Cells s) = stack_of (stack_behind op types locals s)

-- ---- locals

-- what a store puts into a local
abbrev pub stored : (refs : Bool) → StackOf Span → Span
stored true s = full
stored false Clash = full
stored false (Cells s) = operand s 0

-- the locals behind an instruction
abbrev pub locals_after : JOp → List Span → StackOf Span → List Span
locals_after (jop.Store refs k) locals s = slice_set locals k (stored refs s)
locals_after (jop.Inc k by) locals s = slice_set locals k (add_row (operand locals k) (exactly by))
locals_after _ locals s = locals

-- the state behind an instruction
abbrev pub after : (constant : MemberId → Option ℤ) → JOp → (types : List Cell) → RangeState → RangeState
after constant op types x = record {
  stack = stack_after constant op types x.locals x.stack;
  locals = locals_after op x.locals x.stack;
}
