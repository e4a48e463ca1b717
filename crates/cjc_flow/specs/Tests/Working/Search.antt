-- The lowest of the tested rules that an instruction breaks, and the first of a method.
use Rattle.std.specs.Prelude.{ℕ, zero, suc, ◌+◌, ◌==◌, ◌&&◌, nat_le, Bool, if◌then◌else◌, List, [], ◌∷◌, length, Option}
use Rattle.std.specs.Prelude.{Some, None}
use Rattle.cjc_fixpoint.specs.Bytes.Descriptor.{Part}
use Rattle.cjc_fixpoint.specs.Bytes.declared.fault.MemberId.{MemberId}
use Rattle.cjc_fixpoint.specs.Bytes.declared.descriptor.Kind.{Kind}
use Rattle.cjc_fixpoint.specs.Bytes.declared.descriptor.Kind.TheVariants as kinds
use Rattle.cjc_range.specs.Span.{Span, byte_range, short_range}
use Rattle.cjc_types.specs.Bytecode.declared.insn.JInsn.{JInsn}
use Rattle.cjc_types.specs.Bytecode.declared.insn.JOp.{JOp}
use Rattle.cjc_types.specs.Bytecode.declared.insn.JOp.TheVariants as jop
use Rattle.cjc_types.specs.Bytecode.Jvm as jvm
use Rattle.cjc_types.specs.declared.cell.Cell.{Cell}
use Rattle.cjc_types.specs.declared.state.State.{State}
use Rattle.cjc_types.specs.Flow.{Body}
use Rattle.cjc_types.specs.Rules.{tests_references}
use Rattle.cjc_types.specs.Search.{cells_of}
use Rattle.cjc_types.specs.Steps as typed
use Rattle.cjc_types.specs.Steps.{compares}
use Rattle.cjc_types.specs.Types.{parts}
use Rattle.cjc_intervals.specs.Frames.{RangeState, spans_of}
use Rattle.cjc_intervals.specs.Steps.{operand}
use Rattle.cjc_intervals.specs.Values.{boolean_range}
use Rattle.cjc_intervals.specs.Bounds.{index_range, divides, shifts_right, may_hold_booleans, parameter}
use Rattle.cjc_flow.specs.Tests.Breaches.{lies_in}
use Rattle.cjc_flow.specs.declared.tests.passing.Found.{Found}
use Rattle.cjc_flow.specs.declared.tests.passing.Tested.{Tested}
use Rattle.cjc_flow.specs.declared.tests.passing.Tested.TheVariants as wanted

-- the rule, where the interval does not lie in its bound
abbrev pub tested : (rule : ℕ) → (bound : Span) → Span → Option ℕ
tested rule bound s = if lies_in s bound then None else Some rule

-- the lower of two rules
abbrev pub lower : Option ℕ → Option ℕ → Option ℕ
lower None other = other
lower (Some r) None = Some r
lower (Some r) (Some q) = if nat_le r q then Some r else Some q

-- of a number that is put, passed or returned as a value of a type
abbrev pub kind_rule : Kind → Span → Option ℕ
kind_rule kinds.Bool s = tested 609 boolean_range s
kind_rule kinds.Byte s = tested 608 byte_range s
kind_rule kinds.Short s = tested 607 short_range s
kind_rule kinds.Int s = None
kind_rule kinds.Other s = None
kind_rule kinds.Ref s = None
kind_rule kinds.Void s = None

-- of a number that is put, passed or returned as a field, a parameter or a result
abbrev pub part_rule : Part → Span → Option ℕ
part_rule p s = kind_rule p.kind s

-- of the first n operands of a call from the top
abbrev pub arguments_rule : MemberId → (n : ℕ) → List Span → Option ℕ
arguments_rule id zero s = None
arguments_rule id (suc k) s = lower (arguments_rule id k s) (part_rule (parameter id k) (operand s k))

-- of the numbers that a comparison by this opcode takes; one of references takes none
abbrev pub comparison_rule : (opcode : ℕ) → List Span → Option ℕ
comparison_rule opcode s = if tests_references opcode then None else lower (tested 601 short_range (operand s 0))
    (if compares opcode then tested 601 short_range (operand s 1) else None)

-- of both operands of a division or remainder, and of the number that is shifted to the right
abbrev pub arithmetic_rule : (opcode : ℕ) → List Span → Option ℕ
arithmetic_rule opcode s =
    lower (if divides opcode then lower (tested 602 short_range (operand s 0)) (tested 602 short_range (operand s 1))
    else None)
    (if shifts_right opcode then tested 603 short_range (operand s 1) else None)

-- of a value that bastore puts into what may be an array of booleans
abbrev pub element_rule : (opcode : ℕ) → Cell → Span → Option ℕ
element_rule opcode array s = if (opcode == jvm.bastore) && may_hold_booleans array then tested 609 boolean_range s
    else None

-- of a value that is put into a field; where it is got there is none
abbrev pub put_rule : (put : Bool) → MemberId → List Span → Option ℕ
put_rule put field s = if put then part_rule (parts field.desc).result (operand s 0) else None

-- the lowest of 601 to 604 and 606 that an instruction breaks, on a stack with these intervals
abbrev pub low_word_rule : JOp → List Span → Option ℕ
low_word_rule (jop.If opcode target) s = comparison_rule opcode s
low_word_rule (jop.Arith opcode) s = arithmetic_rule opcode s
low_word_rule (jop.TableSwitch other low targets) s = tested 604 short_range (operand s 0)
low_word_rule (jop.LookupSwitch other cases) s = tested 604 short_range (operand s 0)
low_word_rule (jop.ArrayLoad opcode) s = tested 606 index_range (operand s 0)
low_word_rule (jop.ArrayStore opcode) s = tested 606 index_range (operand s 1)
low_word_rule _ s = None

-- the lowest of 605 and 607 to 609, on a stack of these types with these intervals
abbrev pub value_rule : Body → JOp → List Cell → List Span → Option ℕ
value_rule b (jop.NewArray number) types s = tested 605 short_range (operand s 0)
value_rule b (jop.ANewArray class) types s = tested 605 short_range (operand s 0)
value_rule b (jop.ArrayStore opcode) types s = element_rule opcode (typed.operand types 2) (operand s 0)
value_rule b (jop.Static put field) types s = put_rule put field s
value_rule b (jop.Field put field) types s = put_rule put field s
value_rule b (jop.Call opcode id) types s = arguments_rule id (length (parts id.desc).params) s
value_rule b (jop.Return opcode) types s = part_rule (parts b.desc).result (operand s 0)
value_rule b _ types s = None

-- the lowest of those that are tested
abbrev pub lowest_rule : Tested → Body → JOp → List Cell → List Span → Option ℕ
lowest_rule wanted.All b op types s = lower (low_word_rule op s) (value_rule b op types s)
lowest_rule wanted.LowWords b op types s = low_word_rule op s
lowest_rule wanted.Values b op types s = value_rule b op types s

-- of an instruction that both tables reach
abbrev pub row_rule : Tested → Body → JInsn → Option State → Option RangeState → Option ℕ
row_rule which b insn None ranged = None
row_rule which b insn (Some t) None = None
row_rule which b insn (Some t) (Some x) = lowest_rule which b insn.op (cells_of t.stack) (spans_of x.stack)

-- this place with the rule that is broken there, or else what is found later
abbrev pub or_later : Option ℕ → (place : ℕ) → Option Found → Option Found
or_later (Some rule) place later = Some (record { place = place; rule = rule })
or_later None place later = later

-- of these instructions and their rows, the first of which has this place
abbrev pub first_from : Tested → Body → (place : ℕ) → List JInsn → List (Option State) → List (Option RangeState)
    → Option Found
first_from which b place [] types ranges = None
first_from which b place (insn ∷ insns) [] ranges = None
first_from which b place (insn ∷ insns) (t ∷ types) [] = None
first_from which b place (insn ∷ insns) (t ∷ types) (x ∷ ranges) = or_later (row_rule which b insn t x) place
    (first_from which b (place + 1) insns types ranges)
