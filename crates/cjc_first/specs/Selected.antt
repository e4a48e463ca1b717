-- The card's instructions for those of a class file (Java Card Virtual Machine Specification 2.2.2, chapter 7), as bytes.
use Rattle.std.specs.Prelude.{ℕ, ◌+◌, ◌*◌, List, [], ◌∷◌, flat_map, Bool, true, false, ◌==◌, nat_lt, ◌&&◌, if◌then◌else◌, ℤ, pos, negsuc}
use Rattle.std.specs.Int.{w8, w16, cast_unsigned, int_wrap, to_be_bytes}
use Rattle.std.specs.Int.RustNames.{int_le}
use Rattle.cjc_code.specs.declared.insn.JOp.{JOp}
use Rattle.cjc_code.specs.declared.insn.JOp.TheVariants.{Nop, Null, Number, Load, Store, ArrayLoad, ArrayStore, Stack, Arith, Inc, Narrow, If, Goto, TableSwitch, LookupSwitch, Return, Static, Field, Call, New, NewArray, ANewArray, ArrayLength, Throw, CheckCast, InstanceOf}

-- the signed number of the low 16 bits
abbrev pub low_word : ℤ → ℤ
low_word z = int_wrap w16 z

abbrev pub lies_in : ℤ → ℤ → ℤ → Bool
lies_in low high z = int_le low z && int_le z high

-- the opcode of sconst_m1 to sconst_5
abbrev pub sconst : ℤ → ℕ
sconst (pos n) = 3 + n
sconst (negsuc n) = 2

-- a push of a word: sconst, bspush or sspush
abbrev pub constant : ℤ → List ℕ
constant z =
    if lies_in (negsuc 0) (pos 5) z then sconst z ∷ []
    else (if lies_in (negsuc 127) (pos 127) z then 0x10 ∷ cast_unsigned w8 z ∷ []
    else 0x11 ∷ to_be_bytes w16 (cast_unsigned w16 z))

-- sload_0 to sload_3, or sload with its operand
abbrev pub load : ℕ → List ℕ
load l = if nat_lt l 4 then (0x1C + l) ∷ [] else 0x16 ∷ l ∷ []

-- sadd
abbrev pub arithmetic : ℕ → List ℕ
arithmetic op = if op == 0x60 then 0x41 ∷ [] else []

-- sreturn
abbrev pub returning : ℕ → List ℕ
returning op = if op == 0xAC then 0x78 ∷ [] else []

-- What is written for an instruction. i2s is dropped, since a word has 16 bits.
unfoldable pub selected : JOp → List ℕ
selected Nop = []
selected (Number z) = constant (low_word z)
selected (Load false l) = load l
selected (Arith op) = arithmetic op
selected (Narrow op) = []
selected (Return op) = returning op
-- not converted yet
selected Null = []
selected (Load true l) = []
selected (Store refs l) = []
selected (ArrayLoad op) = []
selected (ArrayStore op) = []
selected (Stack op) = []
selected (Inc l by) = []
selected (If op target) = []
selected (Goto target) = []
selected (TableSwitch other low targets) = []
selected (LookupSwitch other cases) = []
selected (Static put field) = []
selected (Field put field) = []
selected (Call op method) = []
selected (New class) = []
selected (NewArray kind) = []
selected (ANewArray class) = []
selected ArrayLength = []
selected Throw = []
selected (CheckCast class) = []
selected (InstanceOf class) = []

unfoldable pub selected_code : List JOp → List ℕ
selected_code ops = flat_map selected ops

-- the most bytes that are written for an instruction, whatever its operands
abbrev pub widest : JOp → ℕ
widest (Number z) = 3
widest (Load refs l) = 2
widest (Arith op) = 1
widest (Return op) = 1
widest op = 0

-- ---- headers

-- a method's header: short where each number is below 16
unfoldable pub header : (max_stack nargs max_locals : ℕ) → List ℕ
header max_stack nargs max_locals =
    if nat_lt max_stack 16 && nat_lt nargs 16 && nat_lt max_locals 16
    then max_stack ∷ (16 * nargs + max_locals) ∷ []
    else 0x80 ∷ max_stack ∷ nargs ∷ max_locals ∷ []
