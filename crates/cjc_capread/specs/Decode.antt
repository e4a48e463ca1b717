-- One instruction as bytes: an opcode, its operands and, of a switch, its table (Java Card Virtual Machine
-- Specification 2.2.2, chapter 7).
use Rattle.std.specs.Int.RustNames.{int_lt, int_le}
use Rattle.std.specs.Prelude.{◌≡◌, ℕ, zero, suc, ◌+◌, ◌-◌, ◌*◌, ◌/◌, ◌%◌, ◌^◌, ◌<◌, List, [], ◌∷◌, ◌++◌, replicate}
use Rattle.std.specs.Prelude.{Option, Some, None, Bool, true, false, nat_lt, ◌&&◌, if◌then◌else◌, ℤ, pos, negsuc, ◌-ℤ◌}
use Rattle.cjc_capread.specs.Opcodes.{Operand, Byte, Signed1, Signed2, Signed4, Index1, Index2, Form, Fields, Table}
use Rattle.cjc_capread.specs.Opcodes.{Lookup, width, widths, form}

-- an instruction: the operands in order, of a switch those before its table, and the numbers of the table
pub record Instruction : Type 0 where
  pub opcode : ℕ
  pub operands : List ℤ
  pub table : List ℤ

-- ---- one number

-- the number that an unsigned one stands for, where half is the first that stands for a negative number
abbrev pub signed : (half n : ℕ) → ℤ
signed half n = if nat_lt n half then pos n else negsuc (half + half - 1 - n)

-- the unsigned number that stands for one with a sign
abbrev pub unsigned : (half : ℕ) → ℤ → ℕ
unsigned half (pos n) = n
unsigned half (negsuc n) = half + half - 1 - n

-- the high one first
abbrev pub two_bytes : ℕ → List ℕ
two_bytes n = n / 256 ∷ n % 256 ∷ []

-- the high ones first
abbrev pub four_bytes : ℕ → List ℕ
four_bytes n = n / 16777216 ∷ n / 65536 % 256 ∷ n / 256 % 256 ∷ n % 256 ∷ []

-- the bytes of an operand, the high ones first
abbrev pub operand_bytes : Operand → ℤ → List ℕ
operand_bytes Byte z = unsigned 128 z ∷ []
operand_bytes Signed1 z = unsigned 128 z ∷ []
operand_bytes Signed2 z = two_bytes (unsigned 32768 z)
operand_bytes Signed4 z = four_bytes (unsigned (2 ^ 31) z)
operand_bytes Index1 z = unsigned 128 z ∷ []
operand_bytes Index2 z = two_bytes (unsigned 32768 z)

-- what was read, and the bytes behind it
pub record First : Type 0 where
  pub value : ℤ
  pub rest : List ℕ

-- several that were read, and the bytes behind them
pub record Front : Type 0 where
  pub values : List ℤ
  pub rest : List ℕ

-- the operand at the front of these bytes; None where they end in it
abbrev pub operand : Operand → List ℕ → Option First
operand Byte (a ∷ rest) = Some (record { value = pos a; rest = rest })
operand Signed1 (a ∷ rest) = Some (record { value = signed 128 a; rest = rest })
operand Signed2 (a ∷ b ∷ rest) = Some (record { value = signed 32768 (256 * a + b); rest = rest })
operand Signed4 (a ∷ b ∷ c ∷ d ∷ rest) =
    Some (record { value = signed (2 ^ 31) (16777216 * a + 65536 * b + 256 * c + d); rest = rest })
operand Index1 (a ∷ rest) = Some (record { value = pos a; rest = rest })
operand Index2 (a ∷ b ∷ rest) = Some (record { value = pos (256 * a + b); rest = rest })
operand kind bytes = None

-- ---- operands in a row

-- the bytes of operands in a row
abbrev pub operands_bytes : List Operand → List ℤ → List ℕ
operands_bytes [] values = []
operands_bytes (kind ∷ kinds) [] = []
operands_bytes (kind ∷ kinds) (value ∷ values) = operand_bytes kind value ++ operands_bytes kinds values

-- one more in front
abbrev pub put_first : ℤ → Option Front → Option Front
put_first value None = None
put_first value (Some front) = Some (record { values = value ∷ front.values; rest = front.rest })

-- the operand that was read, and then others
abbrev pub first_and : Option First → (List ℕ → Option Front) → Option Front
first_and None go = None
first_and (Some first) go = put_first first.value (go first.rest)

-- the operands at the front of these bytes
abbrev pub operands_of : List Operand → List ℕ → Option Front
operands_of [] bytes = Some (record { values = []; rest = bytes })
operands_of (kind ∷ kinds) bytes = first_and (operand kind bytes) (operands_of kinds)

-- ---- an instruction

-- what stands before a table: the default's offset with the low and the high match, or with the number of pairs
abbrev pub before_table : Form → List Operand
before_table (Fields operands) = operands
before_table (Table matches) = Signed2 ∷ matches ∷ matches ∷ []
before_table (Lookup matches) = Signed2 ∷ Index2 ∷ []

-- how many numbers there are from 0 to this one
abbrev pub up_to : ℤ → ℕ
up_to (pos n) = suc n
up_to (negsuc n) = 0

-- so many matches, each with its offset
abbrev pub pairs : Operand → ℕ → List Operand
pairs matches zero = []
pairs matches (suc n) = matches ∷ Signed2 ∷ pairs matches n

-- what stands in the table, by what stands before it
abbrev pub in_table : Form → List ℤ → List Operand
in_table (Table matches) (other ∷ low ∷ high ∷ []) = replicate (up_to (high -ℤ low)) Signed2
in_table (Lookup matches) (other ∷ pos count ∷ []) = pairs matches count
in_table form operands = []

-- each match is greater than the one before
abbrev pub matches_ascend : List ℤ → Bool
matches_ascend (x ∷ far ∷ y ∷ numbers) = int_lt x y && matches_ascend (y ∷ numbers)
matches_ascend numbers = true

-- the low match of a switch is not above its high one, and its matches ascend
abbrev pub is_whole : Form → (operands table : List ℤ) → Bool
is_whole (Table matches) (other ∷ low ∷ high ∷ []) table = int_le low high
is_whole (Lookup matches) operands table = matches_ascend table
is_whole form operands table = true

-- an instruction with its table, where it is whole
abbrev pub with_table : (opcode : ℕ) → Form → (operands : List ℤ) → Option Front → Option Instruction
with_table opcode f operands None = None
with_table opcode f operands (Some front) =
    if is_whole f operands front.values then Some (record {
      opcode = opcode;
      operands = operands;
      table = front.values;
    }) else None

-- an instruction with its operands, and what stands behind them
abbrev pub with_operands : (opcode : ℕ) → Form → Option Front → Option Instruction
with_operands opcode f None = None
with_operands opcode f (Some front) = with_table opcode f front.values (operands_of (in_table f front.values)
    front.rest)

-- an instruction of an opcode with this form
abbrev pub decode_as : (opcode : ℕ) → Option Form → List ℕ → Option Instruction
decode_as opcode None bytes = None
decode_as opcode (Some f) bytes = with_operands opcode f (operands_of (before_table f) bytes)

-- The instruction at the front of these bytes. None where there is no such opcode, the bytes end in an operand, or a
-- switch is not whole.
abbrev pub decode : List ℕ → Option Instruction
decode [] = None
decode (opcode ∷ bytes) = decode_as opcode (form opcode) bytes

-- ---- written

-- the bytes of an instruction
abbrev pub emitted : Form → Instruction → List ℕ
emitted f i = i.opcode ∷ (operands_bytes (before_table f) i.operands ++ operands_bytes (in_table f i.operands) i.table)

-- how many they are
abbrev pub size_as : Form → Instruction → ℕ
size_as f i = 1 + (widths (before_table f) + widths (in_table f i.operands))

-- by the form of its opcode
abbrev pub size_by : Option Form → Instruction → ℕ
size_by None i = 1
size_by (Some f) i = size_as f i

-- the bytes of an instruction by its opcode
abbrev pub size : Instruction → ℕ
size i = size_by (form i.opcode) i

-- ---- what can be written

-- a number without sign below a limit
pub data IsBelow (limit : ℕ) : ℤ → Type 0 where
  below : {n : ℕ} → n < limit → IsBelow limit (pos n)

-- a number with a sign that one bit more than a half of its numbers holds
pub data IsWithin (half : ℕ) : ℤ → Type 0 where
  positive : {n : ℕ} → n < half → IsWithin half (pos n)
  negative : {n : ℕ} → n < half → IsWithin half (negsuc n)

-- a number that an operand can say
abbrev pub Fits : Operand → ℤ → Type 0
Fits Byte z = IsBelow 256 z
Fits Signed1 z = IsWithin 128 z
Fits Signed2 z = IsWithin 32768 z
Fits Signed4 z = IsWithin (2 ^ 31) z
Fits Index1 z = IsBelow 256 z
Fits Index2 z = IsBelow 65536 z

-- as many numbers as operands, each of its own kind
pub data AllFit : List Operand → List ℤ → Type 0 where
  none : AllFit [] []
  more : {kind : Operand} {value : ℤ} {kinds : List Operand} {values : List ℤ} → Fits kind value → AllFit kinds values
      → AllFit (kind ∷ kinds) (value ∷ values)

-- An instruction of this form that bytes can say.
pub record IsWritable (f : Form) (i : Instruction) : Type 0 where
  pub form : form i.opcode ≡ Some f
  pub operands : AllFit (before_table f) i.operands
  pub table : AllFit (in_table f i.operands) i.table
  pub whole : is_whole f i.operands i.table ≡ true
