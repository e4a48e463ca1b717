-- The opcodes of the Java Virtual Machine and what follows each (Java Virtual Machine Specification, 6.5).
use Rattle.std.specs.Prelude.{ℕ, true, false, ◌-◌, ◌*◌, ◌%◌, ◌==◌, ◌&&◌, nat_le, if◌then◌else◌, List, [], ◌∷◌, Option}
use Rattle.std.specs.Prelude.{Some, None, ℤ, pos, negsuc, ◌+ℤ◌, ◌-ℤ◌}
use Rattle.cjc_code.specs.declared.table.Operand.{Operand}
use Rattle.cjc_code.specs.declared.table.Operand.TheVariants.{Unsigned1, Signed1, Unsigned2, Signed2, Signed4}
use Rattle.cjc_code.specs.declared.table.Operands.{Operands}
use Rattle.cjc_code.specs.declared.table.Operands.TheVariants as behind
use Rattle.cjc_code.specs.declared.table.Family.{Family}
use Rattle.cjc_code.specs.declared.table.Family.TheVariants as family

-- ---- the opcodes

-- The opcodes from the first to the last; `row` says what follows the one that stands so far behind the first, and what
-- its instruction is.
pub record Range : Type 0 where
  pub first : ℕ
  pub last : ℕ
  pub row : ℕ → Operands × Family

-- the opcodes between two, with the row of each
abbrev pub range : (first last : ℕ) → (ℕ → Operands × Family) → Range
range first last row = record { first = first; last = last; row = row }

-- opcodes whose instructions are alike
abbrev pub alike : (first last : ℕ) → Operands → Family → Range
alike first last operands f = range first last (λ k. (operands, f))

-- one opcode, with what follows it and what its instruction is
abbrev pub single : (opcode : ℕ) → Operands → Family → Range
single opcode operands f = alike opcode opcode operands f

-- an instruction that is its opcode alone
abbrev pub bare : Family → Operands × Family
bare f = (behind.Nothing, f)

-- all opcodes that there are, from 00 on
abbrev pub ranges : List Range
ranges =
    single 0x00 behind.Nothing family.Nop  -- nop
    ∷ single 0x01 behind.Nothing family.Null  -- aconst_null
    ∷ range 0x02 0x08 (λ k. bare (family.Small (pos k -ℤ pos 1)))  -- iconst_m1, iconst_0 to iconst_5
    ∷ alike 0x09 0x0F behind.Nothing family.Unsupported  -- lconst_0, lconst_1, fconst_0 to fconst_2, dconst_0, dconst_1
    ∷ single 0x10 behind.S1 family.Push  -- bipush
    ∷ single 0x11 behind.S2 family.Push  -- sipush
    ∷ single 0x12 behind.U1 family.Constant  -- ldc
    ∷ single 0x13 behind.U2 family.Constant  -- ldc_w
    ∷ single 0x14 behind.U2 family.UnsupportedConstant  -- ldc2_w
    ∷ single 0x15 behind.U1 (family.Load false)  -- iload
    ∷ alike 0x16 0x18 behind.U1 family.UnsupportedLocal  -- lload, fload, dload
    ∷ single 0x19 behind.U1 (family.Load true)  -- aload
    ∷ range 0x1A 0x1D (λ k. bare (family.LoadAt false k))  -- iload_0 to iload_3
    -- lload_0 to lload_3, fload_0 to fload_3, dload_0 to dload_3
    ∷ range 0x1E 0x29 (λ k. bare (family.UnsupportedLocalAt (k % 4)))
    ∷ range 0x2A 0x2D (λ k. bare (family.LoadAt true k))  -- aload_0 to aload_3
    ∷ single 0x2E behind.Nothing family.ArrayLoad  -- iaload
    ∷ alike 0x2F 0x31 behind.Nothing family.Unsupported  -- laload, faload, daload
    ∷ alike 0x32 0x33 behind.Nothing family.ArrayLoad  -- aaload, baload
    ∷ single 0x34 behind.Nothing family.Unsupported  -- caload
    ∷ single 0x35 behind.Nothing family.ArrayLoad  -- saload
    ∷ single 0x36 behind.U1 (family.Store false)  -- istore
    ∷ alike 0x37 0x39 behind.U1 family.UnsupportedLocal  -- lstore, fstore, dstore
    ∷ single 0x3A behind.U1 (family.Store true)  -- astore
    ∷ range 0x3B 0x3E (λ k. bare (family.StoreAt false k))  -- istore_0 to istore_3
    -- lstore_0 to lstore_3, fstore_0 to fstore_3, dstore_0 to dstore_3
    ∷ range 0x3F 0x4A (λ k. bare (family.UnsupportedLocalAt (k % 4)))
    ∷ range 0x4B 0x4E (λ k. bare (family.StoreAt true k))  -- astore_0 to astore_3
    ∷ single 0x4F behind.Nothing family.ArrayStore  -- iastore
    ∷ alike 0x50 0x52 behind.Nothing family.Unsupported  -- lastore, fastore, dastore
    ∷ alike 0x53 0x54 behind.Nothing family.ArrayStore  -- aastore, bastore
    ∷ single 0x55 behind.Nothing family.Unsupported  -- castore
    ∷ single 0x56 behind.Nothing family.ArrayStore  -- sastore
    ∷ alike 0x57 0x5F behind.Nothing family.Stack  -- pop, pop2, dup, dup_x1, dup_x2, dup2, dup2_x1, dup2_x2, swap
    -- of int, long, float and double: add, sub, mul, div, rem, neg
    ∷ range 0x60 0x77 (λ k. bare (if k % 4 == 0 then family.Arith else family.Unsupported))
    -- of int and long: shl, shr, ushr, and, or, xor
    ∷ range 0x78 0x83 (λ k. bare (if k % 2 == 0 then family.Arith else family.Unsupported))
    ∷ single 0x84 behind.U1S1 family.Inc  -- iinc
    ∷ alike 0x85 0x90 behind.Nothing family.Unsupported  -- i2l, i2f, i2d, l2i, l2f, l2d, f2i, f2l, f2d, d2i, d2l, d2f
    ∷ single 0x91 behind.Nothing family.Narrow  -- i2b
    ∷ single 0x92 behind.Nothing family.Unsupported  -- i2c
    ∷ single 0x93 behind.Nothing family.Narrow  -- i2s
    ∷ alike 0x94 0x98 behind.Nothing family.Unsupported  -- lcmp, fcmpl, fcmpg, dcmpl, dcmpg
    -- ifeq, ifne, iflt, ifge, ifgt, ifle, if_icmpeq to if_icmple, if_acmpeq, if_acmpne
    ∷ alike 0x99 0xA6 behind.S2 family.If
    ∷ single 0xA7 behind.S2 family.Goto  -- goto
    ∷ single 0xA8 behind.S2 family.UnsupportedJump  -- jsr
    ∷ single 0xA9 behind.U1 family.Ret  -- ret
    ∷ single 0xAA behind.Table family.TableSwitch  -- tableswitch
    ∷ single 0xAB behind.Lookup family.LookupSwitch  -- lookupswitch
    ∷ single 0xAC behind.Nothing family.Return  -- ireturn
    ∷ alike 0xAD 0xAF behind.Nothing family.UnsupportedReturn  -- lreturn, freturn, dreturn
    ∷ alike 0xB0 0xB1 behind.Nothing family.Return  -- areturn, return
    ∷ single 0xB2 behind.U2 (family.Static false)  -- getstatic
    ∷ single 0xB3 behind.U2 (family.Static true)  -- putstatic
    ∷ single 0xB4 behind.U2 (family.Field false)  -- getfield
    ∷ single 0xB5 behind.U2 (family.Field true)  -- putfield
    ∷ single 0xB6 behind.U2 family.CallVirtual  -- invokevirtual
    ∷ alike 0xB7 0xB8 behind.U2 family.CallDirect  -- invokespecial, invokestatic
    ∷ single 0xB9 behind.U2U1U1 family.CallInterface  -- invokeinterface
    ∷ single 0xBA behind.U2U1U1 family.UnsupportedConstant  -- invokedynamic
    ∷ single 0xBB behind.U2 family.New  -- new
    ∷ single 0xBC behind.U1 family.NewArray  -- newarray
    ∷ single 0xBD behind.U2 family.ANewArray  -- anewarray
    ∷ single 0xBE behind.Nothing family.ArrayLength  -- arraylength
    ∷ single 0xBF behind.Nothing family.Throw  -- athrow
    ∷ single 0xC0 behind.U2 family.CheckCast  -- checkcast
    ∷ single 0xC1 behind.U2 family.InstanceOf  -- instanceof
    ∷ alike 0xC2 0xC3 behind.Nothing family.Unsupported  -- monitorenter, monitorexit
    ∷ single 0xC4 behind.Nothing family.Wide  -- wide
    ∷ single 0xC5 behind.U2U1 family.UnsupportedClass  -- multianewarray
    ∷ alike 0xC6 0xC7 behind.S2 family.If  -- ifnull, ifnonnull
    ∷ single 0xC8 behind.S4 family.Goto  -- goto_w
    ∷ single 0xC9 behind.S4 family.UnsupportedJump  -- jsr_w
    ∷ []

-- the row of an opcode in the range that has it; what is in none is no opcode
abbrev pub row_in : List Range → ℕ → Operands × Family
row_in [] opcode = bare family.Unknown
row_in (r ∷ rs) opcode = if nat_le r.first opcode && nat_le opcode r.last then r.row (opcode - r.first)
    else row_in rs opcode

-- what follows an opcode, and what its instruction is
unfoldable pub row : ℕ → Operands × Family
row opcode = row_in ranges opcode

-- ---- what follows them

-- the operands of fixed number
abbrev pub heads : Operands → List Operand
heads behind.Nothing = []
heads behind.U1 = Unsigned1 ∷ []
heads behind.S1 = Signed1 ∷ []
heads behind.U2 = Unsigned2 ∷ []
heads behind.S2 = Signed2 ∷ []
heads behind.S4 = Signed4 ∷ []
heads behind.U1S1 = Unsigned1 ∷ Signed1 ∷ []
heads behind.U2S2 = Unsigned2 ∷ Signed2 ∷ []
heads behind.U2U1 = Unsigned2 ∷ Unsigned1 ∷ []
heads behind.U2U1U1 = Unsigned2 ∷ Unsigned1 ∷ Unsigned1 ∷ []
heads behind.Table = Signed4 ∷ Signed4 ∷ Signed4 ∷ []
heads behind.Lookup = Signed4 ∷ Signed4 ∷ []

-- how many bytes a switch leaves free behind its opcode: its numbers begin at a multiple of four bytes from the
-- start of the code
abbrev pub padding : Operands → (place : ℕ) → ℕ
padding behind.Table place = (4 - place % 4) % 4
padding behind.Lookup place = (4 - place % 4) % 4
padding _ place = 0

-- a whole number that counts something: none where it is negative
abbrev pub count : ℤ → ℕ
count (pos n) = n
count (negsuc n) = 0

-- how many numbers of four bytes follow those of a switch: an offset for each value from low to high, or so many pairs
abbrev pub tails : Operands → List ℤ → ℕ
tails behind.Table (other ∷ low ∷ high ∷ zs) = count ((high -ℤ low) +ℤ pos 1)
tails behind.Lookup (other ∷ pairs ∷ zs) = 2 * count pairs
tails _ zs = 0

-- what follows an opcode behind the prefix wide, where it may stand there
abbrev pub wide : Operands × Family → Option Operands
wide (behind.U1, family.Load refs) = Some behind.U2
wide (behind.U1, family.Store refs) = Some behind.U2
wide (behind.U1, family.UnsupportedLocal) = Some behind.U2
wide (behind.U1, family.Ret) = Some behind.U2
wide (behind.U1S1, family.Inc) = Some behind.U2S2
wide _ = None
