-- What each instruction takes from the stack, gives to it, and does to the locals (Java Virtual Machine Specification,
-- section 6.5). Stacks have their top first.
use Rattle.std.specs.Prelude.{ℕ, ◌+◌, Bool, true, false, ◌==◌, ◌&&◌, nat_le, if◌then◌else◌, List, [], ◌∷◌, ◌++◌, map}
use Rattle.std.specs.Prelude.{length, drop, get_or, slice_set}
use Rattle.cjc_code.specs.declared.insn.JOp.{JOp}
use Rattle.cjc_code.specs.declared.insn.JOp.TheVariants as jop
use Rattle.cjc_code.specs.declared.insn.JCase.{JCase}
use Rattle.cjc_code.specs.Jvm as jvm
use Rattle.cjc_types.specs.declared.cell.Cell.{Cell}
use Rattle.cjc_types.specs.declared.cell.Cell.TheVariants.{Number, Refs, Unusable}
use Rattle.cjc_types.specs.declared.state.Stack.{Stack}
use Rattle.cjc_types.specs.declared.state.Stack.TheVariants.{Cells, Clash}
use Rattle.cjc_types.specs.declared.state.State.{State}
use Rattle.cjc_types.specs.States.{stack_of}
use Rattle.cjc_types.specs.Types.{parts, result_of, array_of, letter, element_of, as_reference}

-- the cell at a place, from the top or of a local; one that is missing counts as unusable
abbrev pub operand : List Cell → ℕ → Cell
operand cells k = get_or cells k Unusable

-- ---- what is taken

-- pop, pop2, dup, dup_x1, dup_x2, dup2, dup2_x1, dup2_x2 and swap
abbrev pub stack_takes : (opcode : ℕ) → ℕ
stack_takes opcode =
    if opcode == jvm.pop then 1
    else if opcode == jvm.pop2 then 2
    else if opcode == jvm.dup then 1
    else if opcode == jvm.dup_x1 then 2
    else if opcode == jvm.dup_x2 then 3
    else if opcode == jvm.dup2 then 2
    else if opcode == jvm.dup2_x1 then 3
    else if opcode == jvm.dup2_x2 then 4
    else if opcode == jvm.swap then 2
    else 0

-- if_icmpeq to if_acmpne compare two
abbrev pub compares : (opcode : ℕ) → Bool
compares opcode = nat_le jvm.if_icmpeq opcode && nat_le opcode jvm.if_acmpne

-- invokestatic has no receiver
abbrev pub receivers : (opcode : ℕ) → ℕ
receivers opcode = if opcode == jvm.invokestatic then 0 else 1

-- how many operands an instruction takes
abbrev pub takes : JOp → ℕ
takes jop.Nop = 0
takes jop.Null = 0
takes (jop.Number z) = 0
takes (jop.Load refs k) = 0
takes (jop.Store refs k) = 1
takes (jop.ArrayLoad opcode) = 2
takes (jop.ArrayStore opcode) = 3
takes (jop.Stack opcode) = stack_takes opcode
takes (jop.Arith opcode) = if opcode == jvm.ineg then 1 else 2
takes (jop.Inc k by) = 0
takes (jop.Narrow opcode) = 1
takes (jop.If opcode target) = if compares opcode then 2 else 1
takes (jop.Goto target) = 0
takes (jop.TableSwitch other low targets) = 1
takes (jop.LookupSwitch other cases) = 1
takes (jop.Return opcode) = if opcode == jvm.return then 0 else 1
takes (jop.Static put field) = if put then 1 else 0
takes (jop.Field put field) = if put then 2 else 1
takes (jop.Call opcode method) = length (parts method.desc).params + receivers opcode
takes (jop.New class) = 0
takes (jop.NewArray number) = 1
takes (jop.ANewArray class) = 1
takes jop.ArrayLength = 1
takes jop.Throw = 1
takes (jop.CheckCast class) = 1
takes (jop.InstanceOf class) = 1

-- ---- what is given

-- which of the operands a stack instruction puts back, from the top
abbrev pub shuffled : (opcode : ℕ) → List ℕ
shuffled opcode =
    if opcode == jvm.dup then 0 ∷ 0 ∷ []
    else if opcode == jvm.dup_x1 then 0 ∷ 1 ∷ 0 ∷ []
    else if opcode == jvm.dup_x2 then 0 ∷ 1 ∷ 2 ∷ 0 ∷ []
    else if opcode == jvm.dup2 then 0 ∷ 1 ∷ 0 ∷ 1 ∷ []
    else if opcode == jvm.dup2_x1 then 0 ∷ 1 ∷ 2 ∷ 0 ∷ 1 ∷ []
    else if opcode == jvm.dup2_x2 then 0 ∷ 1 ∷ 2 ∷ 3 ∷ 0 ∷ 1 ∷ []
    else if opcode == jvm.swap then 1 ∷ 0 ∷ []
    else []

-- aload gives the reference of the local, iload a number
abbrev pub local_value : (refs : Bool) → Cell → Cell
local_value true cell = as_reference cell
local_value false cell = Number

-- what an instruction puts on the stack, the top first
abbrev pub gives : JOp → (locals stack : List Cell) → List Cell
gives jop.Nop locals s = []
gives jop.Null locals s = Refs [] ∷ []
gives (jop.Number z) locals s = Number ∷ []
gives (jop.Load refs k) locals s = local_value refs (operand locals k) ∷ []
gives (jop.Store refs k) locals s = []
gives (jop.ArrayLoad opcode) locals s = element_of opcode (operand s 1) ∷ []
gives (jop.ArrayStore opcode) locals s = []
gives (jop.Stack opcode) locals s = map (operand s) (shuffled opcode)
gives (jop.Arith opcode) locals s = Number ∷ []
gives (jop.Inc k by) locals s = []
gives (jop.Narrow opcode) locals s = Number ∷ []
gives (jop.If opcode target) locals s = []
gives (jop.Goto target) locals s = []
gives (jop.TableSwitch other low targets) locals s = []
gives (jop.LookupSwitch other cases) locals s = []
gives (jop.Return opcode) locals s = []
gives (jop.Static put field) locals s = if put then [] else result_of (parts field.desc).result
gives (jop.Field put field) locals s = if put then [] else result_of (parts field.desc).result
gives (jop.Call opcode method) locals s = result_of (parts method.desc).result
gives (jop.New class) locals s = Refs (class ∷ []) ∷ []
gives (jop.NewArray number) locals s = Refs ((91 ∷ letter number ∷ []) ∷ []) ∷ []
gives (jop.ANewArray class) locals s = Refs (array_of class ∷ []) ∷ []
gives jop.ArrayLength locals s = Number ∷ []
gives jop.Throw locals s = []
gives (jop.CheckCast class) locals s = Refs (class ∷ []) ∷ []
gives (jop.InstanceOf class) locals s = Number ∷ []

-- the stack behind an instruction
abbrev pub stack_behind : JOp → (locals stack : List Cell) → List Cell
stack_behind op locals s = gives op locals s ++ drop (takes op) s

-- A clash stays one past every instruction.
abbrev pub stack_after : JOp → (locals : List Cell) → Stack → Stack
stack_after op locals Clash = Clash
stack_after op locals (Cells s) = stack_of (stack_behind op locals s)

-- ---- locals

-- what a store puts into a local: istore a number, astore a reference or else nothing usable; so does a store from a
-- clash
abbrev pub stored : (refs : Bool) → Stack → Cell
stored refs Clash = Unusable
stored true (Cells s) = as_reference (operand s 0)
stored false (Cells s) = Number

-- the locals behind an instruction
abbrev pub locals_after : JOp → List Cell → Stack → List Cell
locals_after (jop.Store refs k) locals s = slice_set locals k (stored refs s)
locals_after (jop.Inc k by) locals s = slice_set locals k Number
locals_after _ locals s = locals

-- the state behind an instruction
abbrev pub after : JOp → State → State
after op x = record { stack = stack_after op x.locals x.stack; locals = locals_after op x.locals x.stack }

-- ---- where it goes

-- whether the next instruction may follow
abbrev pub goes_on : JOp → Bool
goes_on (jop.Goto target) = false
goes_on (jop.TableSwitch other low targets) = false
goes_on (jop.LookupSwitch other cases) = false
goes_on (jop.Return opcode) = false
goes_on jop.Throw = false
goes_on _ = true

-- the offset that a case of a lookupswitch jumps to
abbrev pub case_target : JCase → ℕ
case_target c = c.target

-- the offsets that an instruction may jump to
abbrev pub targets : JOp → List ℕ
targets (jop.If opcode target) = target ∷ []
targets (jop.Goto target) = target ∷ []
targets (jop.TableSwitch other low more) = other ∷ more
targets (jop.LookupSwitch other cases) = other ∷ map case_target cases
targets _ = []
