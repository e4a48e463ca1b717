-- The lowest rule of one kind that an instruction breaks, and the first of a method.
use Rattle.std.specs.Prelude.{ℕ, ◌+◌, Bool, not, List, [], ◌∷◌, Option, Some, None}
use Rattle.cjc_range.specs.Span.{Span, short_range}
use Rattle.cjc_flow.specs.Types.Bytecode.declared.insn.JInsn.{JInsn}
use Rattle.cjc_flow.specs.Types.Bytecode.declared.insn.JOp.{JOp}
use Rattle.cjc_flow.specs.Types.Bytecode.declared.insn.JOp.TheVariants as jop
use Rattle.cjc_flow.specs.Types.declared.cell.Cell.{Cell}
use Rattle.cjc_flow.specs.Types.declared.state.State.{State}
use Rattle.cjc_flow.specs.Types.Flow.{Body}
use Rattle.cjc_flow.specs.Types.Search.{cells_of}
use Rattle.cjc_flow.specs.Types.Steps as typed
use Rattle.cjc_flow.specs.Types.Types.{parts}
use Rattle.cjc_flow.specs.Intervals.Bounds.{index_range}
use Rattle.cjc_flow.specs.Intervals.Frames.{RangeState, spans_of}
use Rattle.cjc_flow.specs.Intervals.Steps.{operand}
use Rattle.cjc_flow.specs.Tests.Working.Search.{tested, comparison_rule, arithmetic_rule, element_rule, put_rule}
use Rattle.cjc_flow.specs.Tests.Working.Search.{arguments_rule, part_rule}
use Rattle.cjc_int_mode.specs.declared.search.Found.{Found}
use Rattle.cjc_int_mode.specs.declared.search.Tested.{Tested}
use Rattle.cjc_int_mode.specs.declared.search.Tested.TheVariants as kinds
use Rattle.cjc_int_mode.specs.Modes.{is_of_low_word}
use Rattle.std.specs.Prelude.{length}

-- 601 to 604 and 606, or 605 and 607 to 609
abbrev pub is_tested : Tested → (rule : ℕ) → Bool
is_tested kinds.LowWords rule = is_of_low_word rule
is_tested kinds.Values rule = not (is_of_low_word rule)

-- the lowest of 601 to 604 and 606 that an instruction breaks, on a stack with these intervals
abbrev pub low_word_rule : JOp → List Span → Option ℕ
low_word_rule (jop.If opcode target) s = comparison_rule opcode s
low_word_rule (jop.Arith opcode) s = arithmetic_rule opcode s
low_word_rule (jop.TableSwitch other low targets) s = tested 604 short_range (operand s 0)
low_word_rule (jop.LookupSwitch other cases) s = tested 604 short_range (operand s 0)
low_word_rule (jop.ArrayLoad opcode) s = tested 606 index_range (operand s 0)
low_word_rule (jop.ArrayStore opcode) s = tested 606 index_range (operand s 1)
low_word_rule _ s = None

-- the lowest of 605 and 607 to 609, on a stack of these types with these intervals
abbrev pub value_rule : Body → JOp → List Cell → List Span → Option ℕ
value_rule b (jop.NewArray number) types s = tested 605 short_range (operand s 0)
value_rule b (jop.ANewArray class) types s = tested 605 short_range (operand s 0)
value_rule b (jop.ArrayStore opcode) types s = element_rule opcode (typed.operand types 2) (operand s 0)
value_rule b (jop.Static put field) types s = put_rule put field s
value_rule b (jop.Field put field) types s = put_rule put field s
value_rule b (jop.Call opcode id) types s = arguments_rule id (length (parts id.desc).params) s
value_rule b (jop.Return opcode) types s = part_rule (parts b.desc).result (operand s 0)
value_rule b _ types s = None

-- the lowest of those that are tested
abbrev pub lowest_rule : Tested → Body → JOp → List Cell → List Span → Option ℕ
lowest_rule kinds.LowWords b op types s = low_word_rule op s
lowest_rule kinds.Values b op types s = value_rule b op types s

-- of an instruction that both tables reach
abbrev pub row_rule : Tested → Body → JInsn → Option State → Option RangeState → Option ℕ
row_rule which b insn None ranged = None
row_rule which b insn (Some t) None = None
row_rule which b insn (Some t) (Some x) = lowest_rule which b insn.op (cells_of t.stack) (spans_of x.stack)

-- this place with the rule that is broken there, or else what is found later
abbrev pub or_later : Option ℕ → (place : ℕ) → Option Found → Option Found
or_later (Some rule) place later = Some (record { place = place; rule = rule })
or_later None place later = later

-- of these instructions and their rows, the first of which has this place
abbrev pub first_from : Tested → Body → (place : ℕ) → List JInsn → List (Option State) → List (Option RangeState)
    → Option Found
first_from which b place [] types ranges = None
first_from which b place (insn ∷ insns) [] ranges = None
first_from which b place (insn ∷ insns) (t ∷ types) [] = None
first_from which b place (insn ∷ insns) (t ∷ types) (x ∷ ranges) = or_later (row_rule which b insn t x) place
    (first_from which b (place + 1) insns types ranges)
