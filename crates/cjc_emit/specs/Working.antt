-- The bytes that the private functions of emitting write: numbers, operands, and instructions by their opcodes.
use Rattle.std.specs.Prelude.{ℕ, ◌+◌, ◌-◌, ◌*◌, ◌/◌, ◌%◌, List, [], ◌∷◌, ◌++◌, length, position, slice_index, Option}
use Rattle.std.specs.Prelude.{Some, None, Bool, nat_lt, ◌==◌, if◌then◌else◌, ℤ}
use Rattle.std.specs.Int.{w32, cast_unsigned}
use Rattle.cjc_layout.specs.Bytes.declared.fault.MemberId.{MemberId}
use Rattle.cjc_layout.specs.CapRead.declared.opcode.OpInfo.{OpInfo}
use Rattle.cjc_layout.specs.CapRead.Opcodes.{op_info}
use Rattle.cjc_layout.specs.CapRead.Card as card
use Rattle.cjc_ncode.specs.declared.narrow.NCase.{NCase}
use Rattle.cjc_ncode.specs.declared.narrow.NInsn.{NInsn}
use Rattle.cjc_ncode.specs.declared.narrow.NInsn.TheVariants as insns
use Rattle.cjc_ncode.specs.declared.narrow.PoolKey.{PoolKey}
use Rattle.cjc_ncode.specs.declared.narrow.PoolKey.TheVariants as keys
use Rattle.cjc_ncode.specs.PoolOrder.{same_key}
use Rattle.cjc_ncode.specs.Lowering.Laid.{distance, wide_jump}
use Rattle.cjc_emit.specs.Emitted.{insn_places}

-- ---- numbers

-- the 32 bits of a number, as a number without sign
abbrev pub bits : ℤ → ℕ
bits z = cast_unsigned w32 z

-- the lowest bytes of a number of 32 bits, high ones first
abbrev pub low_bytes : (width n : ℕ) → List ℕ
low_bytes width n =
    if width == 1 then n % 256 ∷ [] else (if width == 2 then n / 256 % 256 ∷ n % 256 ∷ []
    else (if width == 4 then n / 16777216 ∷ n / 65536 % 256 ∷ n / 256 % 256 ∷ n % 256 ∷ [] else []))

-- the length that the table of opcodes says, and 1 of what is no opcode
abbrev pub length_by : Option OpInfo → ℕ
length_by None = 1
length_by (Some info) = info.length

-- an opcode with one operand
abbrev pub with_one : (op n : ℕ) → List ℕ
with_one op n = op ∷ low_bytes (length_by (op_info op) - 1) n

-- an opcode with an operand of one byte and another
abbrev pub with_two : (op first n : ℕ) → List ℕ
with_two op first n = op ∷ first ∷ low_bytes (length_by (op_info op) - 2) n

-- an index or a token, 0 where there is none
abbrev pub known : Option ℕ → ℕ
known None = 0
known (Some n) = n

-- the opcode of a jump in its form; what has no wide form stays
abbrev pub jump_opcode : (wide : Bool) → (op : ℕ) → ℕ
jump_opcode wide op = if wide then (if nat_lt op 200 then wide_jump op else op) else op

-- the 32 bits of the last number of a range
abbrev pub last_bits : (low count : ℕ) → ℕ
last_bits low count = (low + count % 4294967296 + 4294967295) % 4294967296

-- the offset of a label, or the end
abbrev pub label_at : List ℕ → (end label : ℕ) → ℕ
label_at places end label = if nat_lt label (length places) then slice_index places label else end

-- ---- switches

module _ (to : ℕ → ℕ) (at : ℕ) where
  -- of each case the distance to its target, of two bytes
  abbrev pub offset_bytes : List NCase → List ℕ
  offset_bytes [] = []
  offset_bytes (c ∷ cases) = low_bytes 2 (bits (distance at (to c.target))) ++ offset_bytes cases

  -- of each case its match, of so many bytes, and the distance to its target, of two
  abbrev pub match_bytes : (width : ℕ) → List NCase → List ℕ
  match_bytes width [] = []
  match_bytes width (c ∷ cases) = low_bytes width (bits c.value) ++ (low_bytes 2 (bits (distance at (to c.target)))
      ++ match_bytes width cases)

  -- from the low match on
  abbrev pub range_bytes : (width : ℕ) → (low : ℤ) → List NCase → List ℕ
  range_bytes width low cases = low_bytes width (bits low) ++ (low_bytes width (last_bits (bits low) (length cases))
      ++ offset_bytes cases)

  -- with matches
  abbrev pub lookup_bytes : (width : ℕ) → List NCase → List ℕ
  lookup_bytes width cases = low_bytes 2 (length cases % 4294967296) ++ match_bytes width cases

  -- what stands behind the default, by the opcode
  unfoldable pub table_bytes : (op : ℕ) → (low : ℤ) → List NCase → List ℕ
  table_bytes op low cases =
      if op == card.stableswitch then range_bytes 2 low cases else (if op == card.itableswitch
      then range_bytes 4 low cases
      else (if op == card.slookupswitch then lookup_bytes 2 cases else lookup_bytes 4 cases))

  -- a switch: its opcode, the distance to the default's target, and what stands behind that
  abbrev pub switch_bytes : (op other : ℕ) → (low : ℤ) → List NCase → List ℕ
  switch_bytes op other low cases = op ∷ (low_bytes 2 (bits (distance at (to other))) ++ table_bytes op low cases)

-- ---- instructions

-- the index of a key
abbrev pub index_in : List PoolKey → PoolKey → ℕ
index_in ks key = known (position (same_key key) ks)

-- the index of a class, 0 without one
abbrev pub class_in : List PoolKey → Option (List ℕ) → ℕ
class_in ks None = 0
class_in ks (Some c) = index_in ks (keys.Class c)

module _ (ks : List PoolKey) (token_of : MemberId → Option ℕ) where
  -- a call of an interface's method
  abbrev pub call_bytes : (nargs : ℕ) → MemberId → List ℕ
  call_bytes nargs m = card.invokeinterface ∷ nargs ∷ (low_bytes 2 (index_in ks (keys.Class m.class))
      ++ known (token_of m) ∷ [])

  module _ (to : ℕ → ℕ) where
    -- the bytes of an instruction at this offset, where its jump is wide or not
    abbrev pub written : (at : ℕ) → (wide : Bool) → NInsn → List ℕ
    written at wide (insns.Op op) = op ∷ []
    written at wide (insns.Push op value) = with_one op (bits value)
    written at wide (insns.Local op index) = with_one op index
    written at wide (insns.Inc op index by) = with_two op index (bits by)
    written at wide (insns.Words op high low) = with_one op (16 * high + low)
    written at wide (insns.Jump op target) = with_one (jump_opcode wide op) (bits (distance at (to target)))
    written at wide (insns.Switch op other low cases) = switch_bytes to at op other low cases
    written at wide (insns.Named op key) = with_one op (index_in ks key)
    written at wide (insns.Interface nargs m) = call_bytes nargs m
    written at wide (insns.NewArray kind) = card.newarray ∷ kind ∷ []
    written at wide (insns.TypeTest op kind class) = with_two op kind (class_in ks class)

    -- instructions from the k-th on, at these places
    abbrev pub all_written : (places : List ℕ) → (k : ℕ) → List NInsn → List Bool → List ℕ
    all_written places k [] wide = []
    all_written places k (i ∷ insns) [] = []
    all_written places k (i ∷ insns) (w ∷ wide) = written (slice_index places k) w i
        ++ all_written places (k + 1) insns wide

-- ---- places of indices

-- of instructions from the k-th on, behind a header of so many bytes
abbrev pub all_marked : (bytes head : ℕ) → (places : List ℕ) → (k : ℕ) → List NInsn → List ℕ
all_marked bytes head places k [] = []
all_marked bytes head places k (i ∷ insns) = insn_places bytes (head + slice_index places k) i
    ++ all_marked bytes head places (k + 1) insns
