-- The opcodes of the card and what follows each (Java Card Virtual Machine Specification 2.2.2, chapter 7).
use Rattle.std.specs.Prelude.{ℕ, ◌+◌, List, [], ◌∷◌, ◌++◌, replicate, Option, Some, None, slice_get, option_and_then}
use Rattle.std.specs.Prelude.{option_map}
use Rattle.cjc_capread.specs.declared.opcode.OpInfo.{OpInfo}

-- one operand
pub data Operand : Type 0 where
  -- a number without sign in one byte
  Byte : Operand
  -- a number with sign in one, two or four bytes
  Signed1 : Operand
  Signed2 : Operand
  Signed4 : Operand
  -- an index into the constant pool in one byte or two
  Index1 : Operand
  Index2 : Operand

-- what follows an opcode
pub data Form : Type 0 where
  -- these operands
  Fields : (operands : List Operand) → Form
  -- an offset of two bytes for the default, the low and the high match, and for each match between an offset of two
  -- bytes
  Table : (matches : Operand) → Form
  -- an offset of two bytes for the default, a count of two bytes without sign, and so many matches, each with an offset
  -- of two bytes
  Lookup : (matches : Operand) → Form

-- the bytes of an operand
abbrev pub width : Operand → ℕ
width Byte = 1
width Signed1 = 1
width Signed2 = 2
width Signed4 = 4
width Index1 = 1
width Index2 = 2

-- the bytes of all
abbrev pub widths : List Operand → ℕ
widths [] = 0
widths (x ∷ xs) = width x + widths xs

-- the form of an opcode that only these operands follow
abbrev pub operands : List Operand → Option Form
operands xs = Some (Fields xs)

-- the form of an opcode that nothing follows
abbrev pub bare : Option Form
bare = operands []

-- the form of each opcode from 00 to FF; None where there is no such opcode
unfoldable pub forms : List (Option Form)
forms =
    replicate 16 bare  -- 00 to 0F nop, aconst_null, sconst_m1 to sconst_5, iconst_m1 to iconst_5
    ++ replicate 1 (operands (Signed1 ∷ []))  -- 10 bspush
    ++ replicate 1 (operands (Signed2 ∷ []))  -- 11 sspush
    ++ replicate 1 (operands (Signed1 ∷ []))  -- 12 bipush
    ++ replicate 1 (operands (Signed2 ∷ []))  -- 13 sipush
    ++ replicate 1 (operands (Signed4 ∷ []))  -- 14 iipush
    ++ replicate 3 (operands (Byte ∷ []))  -- 15 to 17 aload, sload, iload
    -- 18 to 27 aload_0 to aload_3, sload_0 to sload_3, iload_0 to iload_3, aaload, baload, saload, iaload
    ++ replicate 16 bare
    ++ replicate 3 (operands (Byte ∷ []))  -- 28 to 2A astore, sstore, istore
    -- 2B to 3E astore_0 to astore_3, sstore_0 to sstore_3, istore_0 to istore_3, aastore, bastore, sastore, iastore,
    -- pop, pop2, dup, dup2
    ++ replicate 20 bare
    ++ replicate 2 (operands (Byte ∷ []))  -- 3F and 40 dup_x, swap_x
    -- 41 to 58 sadd, iadd, ssub, isub, smul, imul, sdiv, idiv, srem, irem, sneg, ineg, sshl, ishl, sshr, ishr, sushr,
    -- iushr, sand, iand, sor, ior, sxor, ixor
    ++ replicate 24 bare
    ++ replicate 2 (operands (Byte ∷ Signed1 ∷ []))  -- 59 and 5A sinc, iinc
    ++ replicate 5 bare  -- 5B to 5F s2b, s2i, i2b, i2s, icmp
    -- 60 to 70 ifeq, ifne, iflt, ifge, ifgt, ifle, ifnull, ifnonnull, if_acmpeq, if_acmpne, if_scmpeq, if_scmpne,
    -- if_scmplt, if_scmpge, if_scmpgt, if_scmple, goto
    ++ replicate 17 (operands (Signed1 ∷ []))
    ++ replicate 1 (operands (Signed2 ∷ []))  -- 71 jsr
    ++ replicate 1 (operands (Byte ∷ []))  -- 72 ret
    ++ replicate 1 (Some (Table Signed2))  -- 73 stableswitch
    ++ replicate 1 (Some (Table Signed4))  -- 74 itableswitch
    ++ replicate 1 (Some (Lookup Signed2))  -- 75 slookupswitch
    ++ replicate 1 (Some (Lookup Signed4))  -- 76 ilookupswitch
    ++ replicate 4 bare  -- 77 to 7A areturn, sreturn, ireturn, return
    ++ replicate 8 (operands (Index2 ∷ []))  -- 7B to 82 getstatic_a, _b, _s, _i, putstatic_a, _b, _s, _i
    ++ replicate 8 (operands (Index1 ∷ []))  -- 83 to 8A getfield_a, _b, _s, _i, putfield_a, _b, _s, _i
    ++ replicate 3 (operands (Index2 ∷ []))  -- 8B to 8D invokevirtual, invokespecial, invokestatic
    ++ replicate 1 (operands (Byte ∷ Index2 ∷ Byte ∷ []))  -- 8E invokeinterface
    ++ replicate 1 (operands (Index2 ∷ []))  -- 8F new
    ++ replicate 1 (operands (Byte ∷ []))  -- 90 newarray
    ++ replicate 1 (operands (Index2 ∷ []))  -- 91 anewarray
    ++ replicate 2 bare  -- 92 and 93 arraylength, athrow
    ++ replicate 2 (operands (Byte ∷ Index2 ∷ []))  -- 94 and 95 checkcast, instanceof
    ++ replicate 2 (operands (Byte ∷ Signed2 ∷ []))  -- 96 and 97 sinc_w, iinc_w
    ++ replicate 17 (operands (Signed2 ∷ []))  -- 98 to A8 the wide jumps, in the order of 60 to 70
    ++ replicate 4 (operands (Index2 ∷ []))  -- A9 to AC getfield_a_w, _b_w, _s_w, _i_w
    ++ replicate 4 (operands (Index1 ∷ []))  -- AD to B0 getfield_a_this, _b_this, _s_this, _i_this
    ++ replicate 4 (operands (Index2 ∷ []))  -- B1 to B4 putfield_a_w, _b_w, _s_w, _i_w
    ++ replicate 4 (operands (Index1 ∷ []))  -- B5 to B8 putfield_a_this, _b_this, _s_this, _i_this
    ++ replicate 69 None  -- B9 to FD
    ++ replicate 2 bare  -- FE and FF impdep1, impdep2

-- the form of an opcode
unfoldable pub form : ℕ → Option Form
form opcode = option_and_then (λ f. f) (slice_get forms opcode)

-- where the index operand stands, counted from the opcode, if these operands stand here; 0 where there is none
abbrev pub index_place : ℕ → List Operand → ℕ
index_place here [] = 0
index_place here (Index1 ∷ xs) = here
index_place here (Index2 ∷ xs) = here
index_place here (x ∷ xs) = index_place (here + width x) xs

-- the bytes of the index operand, 0 where there is none
abbrev pub index_width : List Operand → ℕ
index_width [] = 0
index_width (Index1 ∷ xs) = 1
index_width (Index2 ∷ xs) = 2
index_width (x ∷ xs) = index_width xs

-- what is known by the opcode alone; the length of a switch is not
abbrev pub info : Form → OpInfo
info (Fields xs) = record { length = 1 + widths xs; index_at = index_place 1 xs; index_bytes = index_width xs }
info (Table matches) = record { length = 0; index_at = 0; index_bytes = 0 }
info (Lookup matches) = record { length = 0; index_at = 0; index_bytes = 0 }

-- what the byte says of its instruction, if it is an opcode
unfoldable pub op_info : ℕ → Option OpInfo
op_info opcode = option_map info (form opcode)
