-- The lengths of the instructions of the Java Virtual Machine (Java Virtual Machine Specification, 6.5), and the
-- opcodes that are converted: what the table of opcodes is tested against.
use Rattle.std.specs.Prelude.{ℕ, ◌+◌, Bool, true, false, List, [], ◌∷◌, ◌++◌, map, replicate, sum, Option, Some, None}
use Rattle.cjc_code.specs.declared.table.Operand.{Operand}
use Rattle.cjc_code.specs.declared.table.Operand.TheVariants.{Unsigned1, Signed1, Unsigned2, Signed2, Signed4}
use Rattle.cjc_code.specs.declared.table.Operands.{Operands}
use Rattle.cjc_code.specs.declared.table.Operands.TheVariants as behind
use Rattle.cjc_code.specs.declared.table.Family.{Family}
use Rattle.cjc_code.specs.declared.table.Family.TheVariants as family
use Rattle.cjc_code.specs.Table.{heads}

abbrev pub width : Operand → ℕ
width Unsigned1 = 1
width Signed1 = 1
width Unsigned2 = 2
width Signed2 = 2
width Signed4 = 4

-- the bytes of an instruction with its opcode; 0 where the opcode does not say it: the switches and the prefix
abbrev pub length_of : Operands × Family → Option ℕ
length_of (operands, family.Unknown) = None
length_of (operands, family.Wide) = Some 0
length_of (behind.Table, f) = Some 0
length_of (behind.Lookup, f) = Some 0
length_of (operands, f) = Some (1 + sum (map width (heads operands)))

abbrev pub runs : {A : Type 0} → List (ℕ × A) → List A
runs [] = []
runs (x ∷ xs) = replicate x.0 x.1 ++ runs xs

-- of each opcode from 00 to FF, in runs
abbrev pub lengths : List (Option ℕ)
lengths = runs (
    (16, Some 1)  -- 00 to 0F nop to dconst_1
    ∷ (1, Some 2)  -- 10 bipush
    ∷ (1, Some 3)  -- 11 sipush
    ∷ (1, Some 2)  -- 12 ldc
    ∷ (2, Some 3)  -- 13 and 14 ldc_w, ldc2_w
    ∷ (5, Some 2)  -- 15 to 19 iload to aload
    ∷ (28, Some 1)  -- 1A to 35 iload_0 to saload
    ∷ (5, Some 2)  -- 36 to 3A istore to astore
    ∷ (73, Some 1)  -- 3B to 83 istore_0 to lxor
    ∷ (1, Some 3)  -- 84 iinc
    ∷ (20, Some 1)  -- 85 to 98 i2l to dcmpg
    ∷ (16, Some 3)  -- 99 to A8 ifeq to jsr
    ∷ (1, Some 2)  -- A9 ret
    ∷ (2, Some 0)  -- AA and AB tableswitch, lookupswitch
    ∷ (6, Some 1)  -- AC to B1 ireturn to return
    ∷ (7, Some 3)  -- B2 to B8 getstatic to invokestatic
    ∷ (2, Some 5)  -- B9 and BA invokeinterface, invokedynamic
    ∷ (1, Some 3)  -- BB new
    ∷ (1, Some 2)  -- BC newarray
    ∷ (1, Some 3)  -- BD anewarray
    ∷ (2, Some 1)  -- BE and BF arraylength, athrow
    ∷ (2, Some 3)  -- C0 and C1 checkcast, instanceof
    ∷ (2, Some 1)  -- C2 and C3 monitorenter, monitorexit
    ∷ (1, Some 0)  -- C4 wide
    ∷ (1, Some 4)  -- C5 multianewarray
    ∷ (2, Some 3)  -- C6 and C7 ifnull, ifnonnull
    ∷ (2, Some 5)  -- C8 and C9 goto_w, jsr_w
    ∷ (54, None)  -- CA to FF
    ∷ [])

-- an opcode of the Java Virtual Machine whose instruction is converted, the prefix aside
abbrev pub is_converted : Operands × Family → Bool
is_converted (operands, family.Unknown) = false
is_converted (operands, family.Wide) = false
is_converted (operands, family.Foreign) = false
is_converted (operands, family.ForeignConstant) = false
is_converted (operands, family.ForeignLocal) = false
is_converted (operands, family.ForeignLocalAt n) = false
is_converted (operands, family.ForeignJump) = false
is_converted (operands, family.ForeignReturn) = false
is_converted (operands, family.ForeignClass) = false
is_converted (operands, family.Ret) = false
is_converted (operands, f) = true

-- of each opcode from 00 to FF, in runs
abbrev pub converted : List Bool
converted = runs (
    (9, true)  -- 00 to 08 nop, aconst_null, iconst_m1 to iconst_5
    ∷ (7, false) ∷ (4, true)  -- 10 to 13 bipush, sipush, ldc, ldc_w
    ∷ (1, false) ∷ (1, true)  -- 15 iload
    ∷ (3, false) ∷ (5, true)  -- 19 to 1D aload, iload_0 to iload_3
    ∷ (12, false) ∷ (5, true)  -- 2A to 2E aload_0 to aload_3, iaload
    ∷ (3, false) ∷ (2, true)  -- 32 and 33 aaload, baload
    ∷ (1, false) ∷ (2, true)  -- 35 and 36 saload, istore
    ∷ (3, false) ∷ (5, true)  -- 3A to 3E astore, istore_0 to istore_3
    ∷ (12, false) ∷ (5, true)  -- 4B to 4F astore_0 to astore_3, iastore
    ∷ (3, false) ∷ (2, true)  -- 53 and 54 aastore, bastore
    ∷ (1, false) ∷ (11, true)  -- 56 to 60 sastore, pop to swap, iadd
    ∷ (3, false) ∷ (1, true)  -- 64 isub
    ∷ (3, false) ∷ (1, true)  -- 68 imul
    ∷ (3, false) ∷ (1, true)  -- 6C idiv
    ∷ (3, false) ∷ (1, true)  -- 70 irem
    ∷ (3, false) ∷ (1, true)  -- 74 ineg
    ∷ (3, false) ∷ (1, true)  -- 78 ishl
    ∷ (1, false) ∷ (1, true)  -- 7A ishr
    ∷ (1, false) ∷ (1, true)  -- 7C iushr
    ∷ (1, false) ∷ (1, true)  -- 7E iand
    ∷ (1, false) ∷ (1, true)  -- 80 ior
    ∷ (1, false) ∷ (1, true)  -- 82 ixor
    ∷ (1, false) ∷ (1, true)  -- 84 iinc
    ∷ (12, false) ∷ (1, true)  -- 91 i2b
    ∷ (1, false) ∷ (1, true)  -- 93 i2s
    ∷ (5, false) ∷ (15, true)  -- 99 to A7 ifeq to goto
    ∷ (2, false) ∷ (3, true)  -- AA to AC tableswitch, lookupswitch, ireturn
    ∷ (3, false) ∷ (10, true)  -- B0 to B9 areturn, return, getstatic to invokeinterface
    ∷ (1, false) ∷ (7, true)  -- BB to C1 new to instanceof
    ∷ (4, false) ∷ (3, true)  -- C6 to C8 ifnull, ifnonnull, goto_w
    ∷ (55, false)
    ∷ [])
