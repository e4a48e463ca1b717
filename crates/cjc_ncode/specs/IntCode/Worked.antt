-- Methods made by hand, with what is written for them in int mode.
use Rattle.std.specs.Prelude.{ℕ, ℤ, List, [], ◌∷◌, Some, None, Bool, true, false, pos, codes}
use Rattle.cjc_code.specs.ClassFile.Code.{CodeTree}
use Rattle.cjc_code.specs.declared.insn.JOp.{JOp}
use Rattle.cjc_code.specs.declared.insn.JOp.TheVariants as jop
use Rattle.cjc_card_semantics.specs.Script.Sorts.{Sort, Byte, Short, Int, Reference, OfNumbers, Bytes}
use Rattle.cjc_ncode.specs.declared.narrow.NInsn.{NInsn}
use Rattle.cjc_ncode.specs.declared.narrow.NInsn.TheVariants as insns
use Rattle.cjc_ncode.specs.Written.{Resolution}
use Rattle.cjc_ncode.specs.WorkedCode.{id, resolution}
use Rattle.cjc_ncode.specs.IntCode.IntCode.{Reached, Frame}

-- a code without handlers
abbrev pub code : (max_stack max_locals : ℕ) → CodeTree
code max_stack max_locals = record { max_stack = max_stack; max_locals = max_locals; bytes = []; catches = [] }

-- an instruction, with what is on the stack before it
abbrev pub reached : (at : ℕ) → JOp → List Bool → Reached
reached at op references = record {
  insn = record { at = at; op = op };
  before = record {
    references = references;
    is_index_inside = false;
  };
}

-- ---- a short: whether a + 1 is less than 10

-- a short in, a short out, one local
abbrev pub is_less_frame : Frame
is_less_frame = record { params = Short ∷ []; result = Some Short; max_locals = 1 }

-- its instructions in the class file
abbrev pub is_less : List Reached
is_less =
    reached 0 (jop.Load false 0) []
    ∷ reached 1 (jop.Number (pos 1)) (false ∷ [])
    ∷ reached 2 (jop.Arith 0x60) (false ∷ false ∷ [])
    ∷ reached 3 (jop.Number (pos 10)) (false ∷ [])
    ∷ reached 5 (jop.If 0xA2 10) (false ∷ false ∷ [])
    ∷ reached 8 (jop.Number (pos 1)) []
    ∷ reached 9 (jop.Return 0xAC) (false ∷ [])
    ∷ reached 10 (jop.Number (pos 0)) []
    ∷ reached 11 (jop.Return 0xAC) (false ∷ [])
    ∷ []

-- sload_0 s2i istore_1; iload_1 iconst_1 iadd bipush 10 icmp ifge; iconst_1 i2s sreturn; iconst_0 i2s sreturn
abbrev pub is_less_written : List NInsn
is_less_written =
    insns.Op 0x1C ∷ insns.Op 0x5C ∷ insns.Op 0x34
    ∷ insns.Op 0x21 ∷ insns.Op 0x0B ∷ insns.Op 0x42 ∷ insns.Push 0x12 (pos 10) ∷ insns.Op 0x5F ∷ insns.Jump 0x63 12
    ∷ insns.Op 0x0B ∷ insns.Op 0x5E ∷ insns.Op 0x78
    ∷ insns.Op 0x0A ∷ insns.Op 0x5E ∷ insns.Op 0x78 ∷ []

-- ---- an element of a byte array at an int

-- the type of an array of bytes
abbrev pub bytes : Sort
bytes = Reference (OfNumbers Bytes)

-- a byte array and an int in, a byte out, two locals
abbrev pub element_frame : Frame
element_frame = record { params = bytes ∷ Int ∷ []; result = Some Byte; max_locals = 2 }

-- its instructions in the class file
abbrev pub element : List Reached
element =
    reached 0 (jop.Load true 0) []
    ∷ reached 1 (jop.Load false 1) (true ∷ [])
    ∷ reached 2 (jop.ArrayLoad 0x33) (false ∷ true ∷ [])
    ∷ reached 3 (jop.Return 0xAC) (false ∷ [])
    ∷ []

-- aload_0 astore_3 iload_1 istore 5; aload_3 iload 5; the index's guard; baload s2i; i2s sreturn
abbrev pub element_written : List NInsn
element_written =
    insns.Op 0x18 ∷ insns.Op 0x2E ∷ insns.Op 0x21 ∷ insns.Local 0x2A 5
    ∷ insns.Op 0x1B ∷ insns.Local 0x17 5
    ∷ insns.Op 0x3E ∷ insns.Op 0x3E ∷ insns.Op 0x5E ∷ insns.Op 0x5C ∷ insns.Op 0x5F ∷ insns.Jump 0x60 14 ∷ insns.Op 0x3C
    ∷ insns.Op 0x09 ∷ insns.Op 0x5E
    ∷ insns.Op 0x25 ∷ insns.Op 0x5C
    ∷ insns.Op 0x5E ∷ insns.Op 0x78 ∷ []

-- ---- a loop over a byte array up to a short

-- a byte array and a short in, a byte out, three locals
abbrev pub loop_frame : Frame
loop_frame = record { params = bytes ∷ Short ∷ []; result = Some Byte; max_locals = 3 }

-- its instructions in the class file
abbrev pub loop : List Reached
loop =
    reached 0 (jop.Number (pos 0)) []
    ∷ reached 1 (jop.Store false 2) (false ∷ [])
    ∷ reached 2 (jop.Load false 2) []
    ∷ reached 3 (jop.Load false 1) (false ∷ [])
    ∷ reached 4 (jop.If 0xA2 17) (false ∷ false ∷ [])
    ∷ reached 7 (jop.Load true 0) []
    ∷ reached 8 (jop.Load false 2) (true ∷ [])
    ∷ reached 9 (jop.ArrayLoad 0x33) (false ∷ true ∷ [])
    ∷ reached 10 (jop.Stack 0x57) (false ∷ [])
    ∷ reached 11 (jop.Inc 2 (pos 1)) []
    ∷ reached 14 (jop.Goto 2) []
    ∷ reached 17 (jop.Number (pos 0)) []
    ∷ reached 18 (jop.Return 0xAC) (false ∷ [])
    ∷ []

-- aload_0 astore_2 sload_1 s2i istore 4; iconst_0 istore 6; iload 6 iload 4 icmp ifge; aload_2 iload 6, the index's
-- guard, baload s2i
-- pop2; iinc 6 1; goto; iconst_0 i2s sreturn
abbrev pub loop_written : List NInsn
loop_written =
    insns.Op 0x18 ∷ insns.Op 0x2D ∷ insns.Op 0x1D ∷ insns.Op 0x5C ∷ insns.Local 0x2A 4
    ∷ insns.Op 0x0A ∷ insns.Local 0x2A 6
    ∷ insns.Local 0x17 6 ∷ insns.Local 0x17 4 ∷ insns.Op 0x5F ∷ insns.Jump 0x63 27
    ∷ insns.Op 0x1A ∷ insns.Local 0x17 6
    ∷ insns.Op 0x3E ∷ insns.Op 0x3E ∷ insns.Op 0x5E ∷ insns.Op 0x5C ∷ insns.Op 0x5F ∷ insns.Jump 0x60 21 ∷ insns.Op 0x3C
    ∷ insns.Op 0x09 ∷ insns.Op 0x5E
    ∷ insns.Op 0x25 ∷ insns.Op 0x5C ∷ insns.Op 0x3C
    ∷ insns.Inc 0x5A 6 (pos 1) ∷ insns.Jump 0x70 7
    ∷ insns.Op 0x0A ∷ insns.Op 0x5E ∷ insns.Op 0x78 ∷ []

-- ---- calls

-- a call of p/T.m with this descriptor
abbrev pub call : (desc : List ℕ) → JOp
call desc = jop.Call 0xB8 (id (codes "p/T") (codes "m") desc)

-- no parameters, no result and no locals
abbrev pub call_frame : Frame
call_frame = record { params = []; result = None; max_locals = 0 }

-- ---- a static field that is a constant

-- each field is one, of this value
abbrev pub constants : ℤ → Resolution
constants z = record resolution { constant = λ f. Some z }

-- a read of p/T.c
abbrev pub read : JOp
read = jop.Static false (id (codes "p/T") (codes "c") (codes "I"))
