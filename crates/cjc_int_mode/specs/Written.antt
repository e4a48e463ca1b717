-- What is written for a method in int mode, by its least tables: its parameters and result as int code sees them, and
-- what the tables say before each instruction that they reach.
use Rattle.std.specs.Prelude.{ℕ, ◌+◌, ◌*◌, max, List, [], ◌∷◌, ◌++◌, map, get_or, Option, Some, None}
use Rattle.std.specs.Prelude.{if◌then◌else◌}
use Rattle.cjc_subset.specs.Bytes.AccessFlags.{is_static}
use Rattle.cjc_flow.specs.ClassFile.Code.{CodeTree}
use Rattle.cjc_flow.specs.Bytecode.declared.insn.JInsn.{JInsn}
use Rattle.cjc_flow.specs.Bytecode.declared.insn.JOp.{JOp}
use Rattle.cjc_flow.specs.Bytecode.declared.insn.JOp.TheVariants as jop
use Rattle.cjc_ncode.specs.LowerScript.Sorts.{Sort, Reference, OfClass, Signature, signature_of}
use Rattle.cjc_ncode.specs.declared.narrow.NMethod.{NMethod}
use Rattle.cjc_ncode.specs.Written.{Resolution, reached}
use Rattle.cjc_ncode.specs.IntCode.IntCode.{Before, Reached, Frame, nargs, int_method, scratch_pairs_of}
use Rattle.cjc_flow.specs.LowerTypes.declared.state.State.{State}
use Rattle.cjc_flow.specs.LowerTypes.Flow.{Body}
use Rattle.cjc_flow.specs.LowerTypes.Rules.{is_reference}
use Rattle.cjc_flow.specs.LowerTypes.Search.{cells_of}
use Rattle.cjc_flow.specs.LowerIntervals.Bounds.{index_range}
use Rattle.cjc_flow.specs.LowerIntervals.Frames.{RangeState, spans_of}
use Rattle.cjc_flow.specs.LowerIntervals.Steps.{operand}
use Rattle.cjc_flow.specs.Tests.Breaches.{lies_in}
use Rattle.cjc_flow.specs.Range.Span.{Span}

-- ---- the method

-- the parameters of a descriptor; none where it cannot be read
abbrev pub params_by : Option Signature → List Sort
params_by None = []
params_by (Some types) = types.params

-- its result; none where it is void
abbrev pub result_by : Option Signature → Option Sort
result_by None = None
result_by (Some types) = types.result

-- the receiver of a method that is not static
abbrev pub receiver : Body → List Sort
receiver b = if is_static b.flags then [] else Reference (OfClass b.class) ∷ []

-- the receiver and the parameters, the result, and the locals of the class file
abbrev pub int_frame : Body → Frame
int_frame b = record {
  params = receiver b ++ params_by (signature_of b.desc);
  result = result_by (signature_of b.desc);
  max_locals = b.max_locals;
}

-- ---- before an instruction

-- the intervals of the operand stack; none is known where the table does not reach the instruction
abbrev pub spans_before : Option RangeState → List Span
spans_before None = []
spans_before (Some x) = spans_of x.stack

-- the operand that is the index of an element, from the top: below the value of a store
abbrev pub index_operand : JOp → ℕ
index_operand (jop.ArrayStore op) = 1
index_operand _ = 0

-- which cells of the stack are references, and whether the index of the element lies within -32769 to 65535
abbrev pub before : JOp → State → Option RangeState → Before
before op t x = record {
  references = map is_reference (cells_of t.stack);
  is_index_inside = lies_in (operand (spans_before x) (index_operand op)) index_range;
}

-- ---- reached instructions

-- the instructions that the types reach, with what the tables say before them, where the first has this place
abbrev pub reached_from : List (Option RangeState) → (place : ℕ) → List JInsn → List (Option State) → List Reached
reached_from ranges place (i ∷ insns) (Some t ∷ types) = record {
  insn = i;
  before = before i.op t (get_or ranges place None);
} ∷ reached_from ranges (place + 1) insns types
reached_from ranges place (i ∷ insns) (None ∷ types) = reached_from ranges (place + 1) insns types
reached_from ranges place insns types = []

-- their places
abbrev pub places_from : (place : ℕ) → List JInsn → List (Option State) → List ℕ
places_from place (i ∷ insns) (Some t ∷ types) = place ∷ places_from (place + 1) insns types
places_from place (i ∷ insns) (None ∷ types) = places_from (place + 1) insns types
places_from place insns types = []

-- The narrow method of a method in int mode.
abbrev pub written_in_int_mode : Resolution → CodeTree → Body → List (Option State) → List (Option RangeState) → NMethod
written_in_int_mode r code b types ranges = int_method (int_frame b) r code (reached_from ranges 0 b.insns types)
    (places_from 0 b.insns types)

-- ---- the words of its frame

-- the words of the arguments
abbrev pub argument_words : Body → ℕ
argument_words b = nargs (int_frame b)

-- the greatest number of scratch pairs of these instructions
abbrev pub most_pairs : List JInsn → ℕ
most_pairs [] = 0
most_pairs (i ∷ insns) = max (scratch_pairs_of i.op) (most_pairs insns)

-- the words of the locals: two for each of the class file's, and two for each scratch pair of a reached call
abbrev pub local_words : Body → List (Option State) → ℕ
local_words b types = 2 * b.max_locals + 2 * most_pairs (reached b.insns types)

-- the words of the operand stack
abbrev pub stack_words : Body → ℕ
stack_words b = 2 * b.max_stack + 4
