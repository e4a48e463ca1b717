-- Rules 601 to 609: the interval in which the numbers of an operand have to lie, by the kind of the instruction.
use Rattle.std.specs.Prelude.{◌≡◌, ℕ, ◌-◌, ◌<◌, Bool, true, false, ◌==◌, ◌||◌, List, length, get_or, pos, negsuc}
use Rattle.std.specs.List.{list_any}
use Rattle.cjc_bytes.specs.Descriptor.{Part}
use Rattle.cjc_bytes.specs.declared.fault.MemberId.{MemberId}
use Rattle.cjc_bytes.specs.declared.descriptor.Kind.TheVariants as kinds
use Rattle.cjc_range.specs.Span.{Span, span, byte_range, short_range}
use Rattle.cjc_types.specs.Bytecode.declared.insn.JCase.{JCase}
use Rattle.cjc_types.specs.Bytecode.declared.insn.JOp.{JOp}
use Rattle.cjc_types.specs.Bytecode.declared.insn.JOp.TheVariants as jop
use Rattle.cjc_types.specs.Bytecode.Jvm as jvm
use Rattle.cjc_types.specs.declared.cell.Cell.{Cell}
use Rattle.cjc_types.specs.declared.cell.Cell.TheVariants.{Number, Refs, Unusable}
use Rattle.cjc_types.specs.Types.{parts}
use Rattle.cjc_types.specs.Steps.{operand, takes}
use Rattle.cjc_types.specs.Rules.{tests_references}
use Rattle.cjc_types.specs.Flow.{Body}
use Rattle.cjc_intervals.specs.Values.{boolean_range, is_boolean_array}

-- An array has at most 32,767 elements: the word of -32,769 is 32,767, outside of each, and that of -32,770 may be
-- inside.
abbrev pub index_range : Span
index_range = span (negsuc 32768) (pos 65535)

-- idiv and irem
abbrev pub divides : (opcode : ℕ) → Bool
divides opcode = (opcode == jvm.idiv) || (opcode == jvm.irem)

-- ishr and iushr
abbrev pub shifts_right : (opcode : ℕ) → Bool
shifts_right opcode = (opcode == jvm.ishr) || (opcode == jvm.iushr)

-- a cell that may be an array of booleans
abbrev pub may_hold_booleans : Cell → Bool
may_hold_booleans Number = false
may_hold_booleans (Refs names) = list_any is_boolean_array names
may_hold_booleans Unusable = false

-- the rule and the interval of a number that is put, passed or returned as a value of a type
pub data IsBoundOf (p : Part) : (rule : ℕ) → Span → Type 0 where
  a_short : p.kind ≡ kinds.Short → IsBoundOf p 607 short_range
  a_byte : p.kind ≡ kinds.Byte → IsBoundOf p 608 byte_range
  a_boolean : p.kind ≡ kinds.Bool → IsBoundOf p 609 boolean_range

-- the parameter that is the k-th operand of a call from the top
abbrev pub parameter : MemberId → (k : ℕ) → Part
parameter id k = let d = parts id.desc in get_or d.params (length d.params - 1 - k) d.result

-- Before an instruction of a method, on a stack of these types, the k-th operand from the top has to lie in an interval
-- by a rule.
pub data Bounds (b : Body) : JOp → (types : List Cell) → (rule k : ℕ) → Span → Type 0 where
  a_comparison : {types : List Cell} {opcode target k : ℕ} → tests_references opcode ≡ false
      → k < takes (jop.If opcode target) → Bounds b (jop.If opcode target) types 601 k short_range
  a_division : {types : List Cell} {opcode k : ℕ} → divides opcode ≡ true → k < 2
      → Bounds b (jop.Arith opcode) types 602 k short_range
  a_shift : {types : List Cell} {opcode : ℕ} → shifts_right opcode ≡ true
      → Bounds b (jop.Arith opcode) types 603 1 short_range
  a_table : {types : List Cell} {other : ℕ} {low : _} {targets : List ℕ} → Bounds b (jop.TableSwitch other low targets)
      types 604 0 short_range
  a_lookup : {types : List Cell} {other : ℕ} {cases : List JCase} → Bounds b (jop.LookupSwitch other cases) types 604 0
      short_range
  a_count : {types : List Cell} {number : ℕ} → Bounds b (jop.NewArray number) types 605 0 short_range
  a_reference_count : {types : List Cell} {class : List ℕ} → Bounds b (jop.ANewArray class) types 605 0 short_range
  a_load : {types : List Cell} {opcode : ℕ} → Bounds b (jop.ArrayLoad opcode) types 606 0 index_range
  a_store : {types : List Cell} {opcode : ℕ} → Bounds b (jop.ArrayStore opcode) types 606 1 index_range
  a_static_field : {types : List Cell} {field : MemberId} {rule : ℕ} {s : Span}
      → IsBoundOf (parts field.desc).result rule s → Bounds b (jop.Static true field) types rule 0 s
  a_field : {types : List Cell} {field : MemberId} {rule : ℕ} {s : Span} → IsBoundOf (parts field.desc).result rule s
      → Bounds b (jop.Field true field) types rule 0 s
  an_argument : {types : List Cell} {opcode k : ℕ} {id : MemberId} {rule : ℕ} {s : Span}
      → k < length (parts id.desc).params → IsBoundOf (parameter id k) rule s
      → Bounds b (jop.Call opcode id) types rule k s
  a_result : {types : List Cell} {opcode rule : ℕ} {s : Span} → IsBoundOf (parts b.desc).result rule s
      → Bounds b (jop.Return opcode) types rule 0 s
  a_boolean_element : {types : List Cell} → may_hold_booleans (operand types 2) ≡ true
      → Bounds b (jop.ArrayStore jvm.bastore) types 609 0 boolean_range
