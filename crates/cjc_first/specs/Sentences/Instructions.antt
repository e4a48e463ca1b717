-- The instructions that bytes are (Java Card Virtual Machine Specification 2.2.2, chapter 7).
use Rattle.std.specs.Prelude.{ℕ, zero, suc, ◌+◌, ◌-◌, ◌*◌, List, [], ◌∷◌, length, take, drop, Bool, true, nat_le, ◌==◌, ◌&&◌, ◌||◌, if◌then◌else◌, Option, Some, None, option_map, option_and_then, slice_index, ℤ, ◌-ℤ◌, nat_abs}
use Rattle.std.specs.Int.{w8, w16, w32, cast_signed, from_be_bytes}
use Rattle.std.specs.Int.RustNames.{int_le, int_lt}
use Rattle.cjc_capread.specs.declared.opcode.OpInfo.{OpInfo}
use Rattle.cjc_capread.specs.Opcodes.{Operand, Signed4, Form, Fields, Table, Lookup, form, width, widths, op_info}

-- an instruction: the offset of its opcode in bytes from the start of the info of Method, the opcode, and the bytes of its operands
pub record Instruction : Type 0 where
  pub at : ℕ
  pub opcode : ℕ
  pub operands : List ℕ

-- ---- numbers at the front of bytes

abbrev pub count2 : List ℕ → ℕ
count2 bytes = from_be_bytes w16 (take 2 bytes)

abbrev pub signed1 : List ℕ → ℤ
signed1 bytes = cast_signed w8 (slice_index bytes 0)

abbrev pub signed2 : List ℕ → ℤ
signed2 bytes = cast_signed w16 (count2 bytes)

-- a match of a switch, in two bytes or four
abbrev pub match_value : Operand → List ℕ → ℤ
match_value Signed4 bytes = cast_signed w32 (from_be_bytes w32 (take 4 bytes))
match_value _ bytes = signed2 bytes

-- ---- switches; the bytes are those behind the opcode

abbrev pub low : Operand → List ℕ → ℤ
low matches bytes = match_value matches (drop 2 bytes)

abbrev pub high : Operand → List ℕ → ℤ
high matches bytes = match_value matches (drop (2 + width matches) bytes)

-- the offsets of a table, the default aside
abbrev pub table_length : Operand → List ℕ → ℕ
table_length matches bytes = nat_abs (high matches bytes -ℤ low matches bytes) + 1

-- so many matches, each before an offset of two bytes
abbrev pub match_values : ℕ → Operand → List ℕ → List ℤ
match_values zero matches bytes = []
match_values (suc n) matches bytes = match_value matches bytes ∷ match_values n matches (drop (width matches + 2) bytes)

abbrev pub ascend : List ℤ → Bool
ascend (x ∷ y ∷ zs) = int_lt x y && ascend (y ∷ zs)
ascend _ = true

abbrev pub pairs : List ℕ → ℕ
pairs bytes = count2 (drop 2 bytes)

-- ---- whole instructions

abbrev pub if_there : ℕ → List ℕ → Option ℕ
if_there n bytes = if nat_le n (length bytes) then Some n else None

-- The bytes of the operands behind an opcode of this form. None where they are cut, where the high match of a table is below the
-- low one, and where the matches of a lookup do not ascend.
abbrev pub operand_bytes : Form → List ℕ → Option ℕ
operand_bytes (Fields operands) bytes = if_there (widths operands) bytes
operand_bytes (Table matches) bytes =
    if int_le (low matches bytes) (high matches bytes)
    then if_there (2 + 2 * width matches + 2 * table_length matches bytes) bytes else None
operand_bytes (Lookup matches) bytes =
    if ascend (match_values (pairs bytes) matches (drop 4 bytes))
    then if_there (4 + (width matches + 2) * pairs bytes) bytes else None

abbrev pub operands_behind : (opcode : ℕ) → List ℕ → Option ℕ
operands_behind opcode bytes = option_and_then (λ f. operand_bytes f bytes) (form opcode)

abbrev pub begun_with : (at opcode : ℕ) → List ℕ → Option ℕ → (ℕ → Option (List Instruction)) → Option (List Instruction)
begun_with at opcode bytes None go = None
begun_with at opcode bytes (Some n) go = option_map (λ is. record { at = at; opcode = opcode; operands = take n bytes } ∷ is) (go n)

-- The instructions that the bytes from an offset on are, where so many bytes more belong to the one before; None where they are none.
abbrev pub instructions_behind : (left at : ℕ) → List ℕ → Option (List Instruction)
instructions_behind zero at [] = Some []
instructions_behind (suc left) at [] = None
instructions_behind (suc left) at (b ∷ bytes) = instructions_behind left (at + 1) bytes
instructions_behind zero at (op ∷ bytes) = begun_with at op bytes (operands_behind op bytes) (λ n. instructions_behind n (at + 1) bytes)

abbrev pub instructions : (at : ℕ) → List ℕ → Option (List Instruction)
instructions at bytes = instructions_behind 0 at bytes

-- ---- jumps

abbrev pub lies_between : (low high n : ℕ) → Bool
lies_between low high n = nat_le low n && nat_le n high

-- so many offsets of two bytes, each so many bytes behind the one before
abbrev pub offsets : ℕ → (step : ℕ) → List ℕ → List ℤ
offsets zero step bytes = []
offsets (suc n) step bytes = signed2 bytes ∷ offsets n step (drop step bytes)

abbrev pub switch_offsets : Form → List ℕ → List ℤ
switch_offsets (Fields operands) bytes = []
switch_offsets (Table matches) bytes = signed2 bytes ∷ offsets (table_length matches bytes) 2 (drop (2 + 2 * width matches) bytes)
switch_offsets (Lookup matches) bytes = signed2 bytes ∷ offsets (pairs bytes) (width matches + 2) (drop (4 + width matches) bytes)

abbrev pub switch_jumps : Option Form → List ℕ → List ℤ
switch_jumps None bytes = []
switch_jumps (Some f) bytes = switch_offsets f bytes

-- how far an instruction may jump, in bytes from its opcode: the jumps of one byte, jsr with the wide jumps, and the switches
abbrev pub jumps : Instruction → List ℤ
jumps i =
    if lies_between 0x60 0x70 i.opcode then signed1 i.operands ∷ []
    else if i.opcode == 0x71 || lies_between 0x98 0xA8 i.opcode then signed2 i.operands ∷ []
    else switch_jumps (form i.opcode) i.operands

-- what is behind an instruction is not run after it: goto, jsr, ret, the switches and returns, athrow, goto_w, impdep1, impdep2
abbrev pub ends_code : (opcode : ℕ) → Bool
ends_code op = lies_between 0x70 0x7A op || op == 0x93 || op == 0xA8 || lies_between 0xFE 0xFF op

-- ---- indices into the constant pool

-- checkcast and instanceof of an array of boolean, byte, short or int, which name no class
abbrev pub names_no_class : Instruction → Bool
names_no_class i = lies_between 0x94 0x95 i.opcode && lies_between 10 13 (slice_index i.operands 0)

-- an index: the opcode that names it, the offset where it stands, its size in bytes, and itself
pub record IndexOperand : Type 0 where
  pub opcode : ℕ
  pub at : ℕ
  pub size : ℕ
  pub index : ℕ

abbrev pub index_in : Instruction → OpInfo → List IndexOperand
index_in i o =
    let bytes = drop (o.index_at - 1) i.operands in
    if o.index_bytes == 0 || names_no_class i then []
    else record { opcode = i.opcode; at = i.at + o.index_at; size = o.index_bytes; index = if o.index_bytes == 1 then slice_index bytes 0 else count2 bytes } ∷ []

abbrev pub index_of : Instruction → Option OpInfo → List IndexOperand
index_of i None = []
index_of i (Some o) = index_in i o

-- the index of an instruction, if it has one
abbrev pub indices : Instruction → List IndexOperand
indices i = index_of i (op_info i.opcode)
