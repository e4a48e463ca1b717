-- Frames made by hand that agree: a byte array and an int in, two locals. A method in int mode made by hand.
use Rattle.std.specs.Prelude.{ℕ, List, [], ◌∷◌, ◌++◌, length, map, Option, Some, None, Bool, true, false, pos, negsuc}
use Rattle.std.specs.Prelude.{codes, slice_get}
use Rattle.cjc_range.specs.Span.{full}
use Rattle.cjc_script.specs.declared.value.Value.{Value}
use Rattle.cjc_script.specs.declared.value.Value.TheVariants.{Num, Null}
use Rattle.cjc_script.specs.Sorts.{Shape, Int}
use Rattle.cjc_int_proof.specs.Bytecode.declared.insn.JOp.TheVariants as jop
use Rattle.cjc_ncode.specs.declared.narrow.NMethod.{NMethod}
use Rattle.cjc_ncode.specs.WorkedCode.{id, resolution}
use Rattle.cjc_ncode.specs.IntCode.IntCode.{Reached, guard, place_in, prologue, written_from}
use Rattle.cjc_ncode.specs.IntCode.IntCode as written
use Rattle.cjc_ncode.specs.IntCode.Worked.{reached}
use Rattle.cjc_jvm_semantics.specs.Linked.{Method}
use Rattle.cjc_narrow_proof.specs.Selection.Relation.{Kind, Range, Refers}
use Rattle.cjc_int_runs.specs.IntFrames.{IntBody, IntPoint}

-- a type of any kind
abbrev pub any : Shape (List ℕ) → Bool
any kind = true

-- a number on a reference
abbrev pub cells : List Kind
cells = Range full ∷ Refers any ∷ []

-- 65,537 on null
abbrev pub values : List Value
values = Num (pos 65537) ∷ Null ∷ []

-- its low word, its high word, and the reference
abbrev pub value_words : List Value
value_words = Num (pos 1) ∷ Num (pos 1) ∷ Null ∷ []

-- a reference and a number
abbrev pub local_cells : List Kind
local_cells = Refers any ∷ Range full ∷ []

-- null and -65,536
abbrev pub locals : List (Option Value)
locals = Some Null ∷ Some (Num (negsuc 65535)) ∷ []

-- three words of arguments, the reference and a free word, the high and the low word of the number
abbrev pub local_words : List (Option Value)
local_words = Some Null ∷ None ∷ Some (Num (pos 7)) ∷ Some Null ∷ None ∷ Some (Num (negsuc 0)) ∷ Some (Num (pos 0)) ∷ []

-- the guard of an index that may lie anywhere, as a method's code
abbrev pub guard_code : NMethod
guard_code = record {
  insns = guard false 0;
  from = [];
  catches = [];
  max_stack = 6;
  nargs = 0;
  max_locals = 0;
  widest = 0;
}

-- ---- a method: an int in, the same out

-- its frame
abbrev pub echo_frame : written.Frame
echo_frame = record { params = Int ∷ []; result = Some Int; max_locals = 1 }

-- iload_0 ireturn
abbrev pub echo_reached : List Reached
echo_reached = reached 0 (jop.Load false 0) [] ∷ reached 1 (jop.Return 0xAC) (false ∷ []) ∷ []

-- in the class file
abbrev pub echo : Method
echo = record {
  id = id (codes "p/T") (codes "e") (codes "(I)I");
  is_abstract = false;
  max_stack = 1;
  max_locals = 1;
  insns = map (λ (i : Reached). i.insn) echo_reached;
  catches = [];
}

-- in int mode: the prologue moves no argument's words away from where the method finds them
abbrev pub echo_code : NMethod
echo_code = record {
  insns = prologue echo_frame ++ written_from echo_frame resolution (place_in echo_frame resolution echo_reached)
      (length (prologue echo_frame)) echo_reached;
  from = [];
  catches = [];
  max_stack = 6;
  nargs = 2;
  max_locals = 2;
  widest = 0;
}

-- any int before the return
abbrev pub echo_points : List IntPoint
echo_points = record {
  stack = [];
  locals = Range full ∷ [];
  before = record { references = []; is_index_inside = false };
} ∷ record {
  stack = Range full ∷ [];
  locals = Range full ∷ [];
  before = record { references = false ∷ []; is_index_inside = false };
} ∷ []

abbrev pub echo_point : (at : ℕ) → Option IntPoint
echo_point at = slice_get echo_points at

-- all of it
abbrev pub echo_body : IntBody
echo_body = record {
  frame = echo_frame;
  pairs = 0;
  resolution = resolution;
  code = echo_code;
  place_of = place_in echo_frame resolution echo_reached;
  point = echo_point;
}
