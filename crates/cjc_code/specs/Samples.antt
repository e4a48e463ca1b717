-- Codes and what they are decoded to. Each method is static and of ()V, its class of version 52, and max_locals is 1,
-- unless it says otherwise.
use Rattle.std.specs.Prelude.{ℕ, List, [], ◌∷◌, None, Result, Ok, Err, false, true, pos, negsuc, codes}
use Rattle.cjc_bytes.specs.declared.fault.MemberId.{MemberId}
use Rattle.cjc_classfile.specs.declared.tree.Catch.{Catch}
use Rattle.cjc_classfile.specs.declared.tree.ClassTree.{ClassTree}
use Rattle.cjc_classfile.specs.declared.tree.MethodTree.{MethodTree}
use Rattle.cjc_classfile.specs.PoolItem.{PoolItem}
use Rattle.cjc_classfile.specs.PoolItem as items
use Rattle.cjc_classfile.specs.Code.{CodeTree}
use Rattle.cjc_bytes.specs.declared.breaks.BrokenAt.{BrokenAt}
use Rattle.cjc_code.specs.declared.insn.JInsn.{JInsn}
use Rattle.cjc_code.specs.declared.insn.JOp.{JOp}
use Rattle.cjc_code.specs.declared.insn.JOp.TheVariants as jop
use Rattle.cjc_code.specs.Decoded.{decoding}

-- the method m of class q, without parameters and result
abbrev pub member : MemberId
member = record { class = codes "q"; name = codes "m"; desc = codes "()V" }

-- an Integer at 1, a Class at 2, a Fieldref at 3, a Methodref at 4, an InterfaceMethodref at 5 and a Long at 6
abbrev pub pool : List PoolItem
pool = items.Other ∷ items.Int (pos 7) ∷ items.Class (codes "q") ∷ items.Field member ∷ items.Method member
    ∷ items.InterfaceMethod member ∷ items.Other ∷ items.Other ∷ []

-- the public class p/T of this version, with the pool above
abbrev pub class : (major : ℕ) → ClassTree
class major = record {
  major = major;
  flags = 33;
  name = codes "p/T";
  superclass = codes "q";
  interfaces = [];
  pool = pool;
  fields = [];
  methods = [];
}

-- code of these bytes and handlers, with a stack of 4 and one local
abbrev pub code : List Catch → List ℕ → CodeTree
code catches bytes = record { max_stack = 4; max_locals = 1; bytes = bytes; catches = catches }

-- the method f with these flags and this descriptor
abbrev pub method : (flags : ℕ) → (desc : List ℕ) → MethodTree
method flags desc = record { flags = flags; name = codes "f"; desc = desc; code = None }

-- what some bytes are decoded to
abbrev pub sample : List ℕ → Result (List JInsn) BrokenAt
sample bytes = decoding (class 52) (method 9 (codes "()V")) (code [] bytes)

-- this rule is broken at this offset
abbrev pub broken : (rule offset : ℕ) → Result (List JInsn) BrokenAt
broken rule offset = Err (record { rule = rule; offset = offset })

-- codes that break rule 103, and where
abbrev pub unfit : List (List ℕ × ℕ)
unfit =
    (0x00 ∷ 0xCA ∷ 0xB1 ∷ [], 1)  -- an unknown opcode
    ∷ (0x00 ∷ 0x11 ∷ 0x00 ∷ [], 1)  -- a cut operand
    ∷ (0x00 ∷ 0xC4 ∷ 0x15 ∷ 0x00 ∷ [], 1)  -- one behind the prefix
    ∷ (0xC4 ∷ 0x60 ∷ 0x00 ∷ 0x00 ∷ 0xB1 ∷ [], 0)  -- an opcode that may not stand behind the prefix
    ∷ (0xB2 ∷ 0x00 ∷ 0x02 ∷ 0x57 ∷ 0xB1 ∷ [], 0)  -- getstatic of a Class
    ∷ (0xB6 ∷ 0x00 ∷ 0x05 ∷ 0xB1 ∷ [], 0)  -- invokevirtual of an InterfaceMethodref
    ∷ (0xB9 ∷ 0x00 ∷ 0x04 ∷ 0x01 ∷ 0x00 ∷ 0xB1 ∷ [], 0)  -- invokeinterface of a Methodref
    ∷ (0xBB ∷ 0x00 ∷ 0x03 ∷ 0x57 ∷ 0xB1 ∷ [], 0)  -- new of a Fieldref
    ∷ (0xC5 ∷ 0x00 ∷ 0x03 ∷ 0x02 ∷ 0x57 ∷ 0xB1 ∷ [], 0)  -- multianewarray of a Fieldref
    ∷ (0x12 ∷ 0x00 ∷ 0x57 ∷ 0xB1 ∷ [], 0)  -- ldc of index 0
    ∷ (0x12 ∷ 0x08 ∷ 0x57 ∷ 0xB1 ∷ [], 0)  -- ldc past the pool
    ∷ (0x14 ∷ 0x00 ∷ 0x00 ∷ 0x58 ∷ 0xB1 ∷ [], 0)  -- ldc2_w of index 0
    ∷ (0xBA ∷ 0x00 ∷ 0x08 ∷ 0x00 ∷ 0x00 ∷ 0xB1 ∷ [], 0)  -- invokedynamic past the pool
    ∷ (0xA7 ∷ 0x00 ∷ 0x01 ∷ 0xB1 ∷ [], 0)  -- a jump into an operand
    ∷ (0xA7 ∷ 0x00 ∷ 0x04 ∷ 0xB1 ∷ [], 0)  -- to the end
    ∷ (0xA7 ∷ 0xFF ∷ 0xFF ∷ 0xB1 ∷ [], 0)  -- before the start
    ∷ (0xA7 ∷ 0x00 ∷ 0x05 ∷ 0x00 ∷ 0xCA ∷ 0xB1 ∷ [], 0)  -- behind the place where the cut stops
    ∷ (0xA7 ∷ 0x00 ∷ 0x03 ∷ 0xCA ∷ 0xB1 ∷ [], 3)  -- to that place
    ∷ (0xC8 ∷ 0x00 ∷ 0x00 ∷ 0x00 ∷ 0x01 ∷ 0xB1 ∷ [], 0)  -- goto_w into its operand
    ∷ (0x03 ∷ 0x99 ∷ 0x00 ∷ 0x02 ∷ 0xB1 ∷ [], 1)  -- ifeq into its operand
    ∷ (0xA8 ∷ 0x00 ∷ 0x01 ∷ 0xB1 ∷ [], 0)  -- jsr into its operand
    ∷ (0x15 ∷ 0x01 ∷ 0x57 ∷ 0xB1 ∷ [], 0)  -- iload of max_locals
    ∷ (0x1B ∷ 0x57 ∷ 0xB1 ∷ [], 0)  -- iload_1
    ∷ (0x84 ∷ 0x01 ∷ 0x01 ∷ 0xB1 ∷ [], 0)  -- iinc
    ∷ (0xC4 ∷ 0x84 ∷ 0x01 ∷ 0x00 ∷ 0x00 ∷ 0x01 ∷ 0xB1 ∷ [], 0)  -- wide iinc
    ∷ (0x03 ∷ 0x40 ∷ 0xB1 ∷ [], 1)  -- lstore_1
    ∷ (0xA9 ∷ 0x01 ∷ [], 0)  -- ret
    -- a tableswitch with low above high
    ∷ (
      0x03 ∷ 0xAA ∷ 0x00 ∷ 0x00 ∷ 0x00 ∷ 0x00 ∷ 0x00 ∷ 0x0F ∷ 0x00 ∷ 0x00 ∷ 0x00 ∷ 0x01 ∷ 0x00 ∷ 0x00 ∷ 0x00 ∷ 0x00
          ∷ 0xB1 ∷ [],
      1,
    )
    -- a jump of one off a start
    ∷ (
      0x03 ∷ 0xAA ∷ 0x00 ∷ 0x00 ∷ 0x00 ∷ 0x00 ∷ 0x00 ∷ 0x13 ∷ 0x00 ∷ 0x00 ∷ 0x00 ∷ 0x01 ∷ 0x00 ∷ 0x00 ∷ 0x00 ∷ 0x01
          ∷ 0x00 ∷ 0x00 ∷ 0x00 ∷ 0x12 ∷ 0xB1 ∷ [],
      1,
    )
    -- a lookupswitch with a negative count
    ∷ (0x03 ∷ 0xAB ∷ 0x00 ∷ 0x00 ∷ 0x00 ∷ 0x00 ∷ 0x00 ∷ 0x0B ∷ 0xFF ∷ 0xFF ∷ 0xFF ∷ 0xFF ∷ 0xB1 ∷ [], 1)
    -- values that do not ascend
    ∷ (
      0x03 ∷ 0xAB ∷ 0x00 ∷ 0x00 ∷ 0x00 ∷ 0x00 ∷ 0x00 ∷ 0x1B ∷ 0x00 ∷ 0x00 ∷ 0x00 ∷ 0x02 ∷ 0x00 ∷ 0x00 ∷ 0x00 ∷ 0x05
          ∷ 0x00 ∷ 0x00 ∷ 0x00 ∷ 0x1B ∷ 0x00 ∷ 0x00 ∷ 0x00 ∷ 0x05 ∷ 0x00 ∷ 0x00 ∷ 0x00 ∷ 0x1B ∷ 0xB1 ∷ [],
      1,
    )
    -- a jump of one off a start
    ∷ (
      0x03 ∷ 0xAB ∷ 0x00 ∷ 0x00 ∷ 0x00 ∷ 0x00 ∷ 0x00 ∷ 0x13 ∷ 0x00 ∷ 0x00 ∷ 0x00 ∷ 0x01 ∷ 0x00 ∷ 0x00 ∷ 0x00 ∷ 0x05
          ∷ 0x00 ∷ 0x00 ∷ 0x00 ∷ 0x12 ∷ 0xB1 ∷ [],
      1,
    )
    ∷ (0x04 ∷ 0xBC ∷ 0x03 ∷ 0x57 ∷ 0xB1 ∷ [], 1)  -- newarray of type 3
    ∷ (0x04 ∷ 0xBC ∷ 0x0C ∷ 0x57 ∷ 0xB1 ∷ [], 1)  -- of type 12
    ∷ (0x03 ∷ 0x57 ∷ [], 1)  -- a last instruction that may fall off
    ∷ (0x09 ∷ 0x58 ∷ 0xCA ∷ [], 2)  -- before rule 303
    ∷ []

-- codes that break rule 303, and where
abbrev pub unsupported : List (List ℕ × ℕ)
unsupported =
    (0x1A ∷ 0x14 ∷ 0x00 ∷ 0x06 ∷ 0x58 ∷ 0xAC ∷ [], 1)  -- ldc2_w of a Long
    ∷ (0x12 ∷ 0x02 ∷ 0x57 ∷ 0xB1 ∷ [], 0)  -- ldc of a Class
    ∷ (0x09 ∷ 0x58 ∷ 0xB1 ∷ [], 0)  -- lconst_0
    ∷ (0x03 ∷ 0xC2 ∷ 0xB1 ∷ [], 1)  -- monitorenter
    ∷ (0xC4 ∷ 0x16 ∷ 0x00 ∷ 0x00 ∷ 0x58 ∷ 0xB1 ∷ [], 0)  -- wide lload
    ∷ (0x04 ∷ 0x04 ∷ 0xC5 ∷ 0x00 ∷ 0x02 ∷ 0x02 ∷ 0x57 ∷ 0xB1 ∷ [], 2)  -- multianewarray
    ∷ (0xBA ∷ 0x00 ∷ 0x01 ∷ 0x00 ∷ 0x00 ∷ 0xB1 ∷ [], 0)  -- invokedynamic
    ∷ (0x00 ∷ 0xA8 ∷ 0x00 ∷ 0x00 ∷ [], 1)  -- jsr, which does not fall off
    ∷ (0xA9 ∷ 0x00 ∷ [], 0)  -- ret
    ∷ (0x09 ∷ 0xAD ∷ [], 0)  -- lreturn: the first of two
    ∷ []

-- the instruction that begins at this place
abbrev pub insn : (at : ℕ) → JOp → JInsn
insn at op = record { at = at; op = op }

-- codes and their instructions
abbrev pub good : List (List ℕ × List JInsn)
good = (
  0x03 ∷ 0xAA ∷ 0x00 ∷ 0x00 ∷ 0x00 ∷ 0x00 ∷ 0x00 ∷ 0x17 ∷ 0xFF ∷ 0xFF ∷ 0xFF ∷ 0xFF ∷ 0x00 ∷ 0x00 ∷ 0x00 ∷ 0x00 ∷ 0x00
      ∷ 0x00 ∷ 0x00 ∷ 0x17 ∷ 0xFF ∷ 0xFF ∷ 0xFF ∷ 0xFF ∷ 0xB1 ∷ [],
  insn 0 (jop.Number (pos 0)) ∷ insn 1 (jop.TableSwitch 24 (negsuc 0) (24 ∷ 0 ∷ [])) ∷ insn 24 (jop.Return 0xB1) ∷ [],
)  -- a tableswitch with 2 bytes of padding
    ∷ (
      0x00 ∷ 0x03 ∷ 0xAA ∷ 0x00 ∷ 0x00 ∷ 0x00 ∷ 0x00 ∷ 0x16 ∷ 0xFF ∷ 0xFF ∷ 0xFF ∷ 0xFF ∷ 0x00 ∷ 0x00 ∷ 0x00 ∷ 0x00
          ∷ 0x00 ∷ 0x00 ∷ 0x00 ∷ 0x16 ∷ 0xFF ∷ 0xFF ∷ 0xFF ∷ 0xFE ∷ 0xB1 ∷ [],
      insn 0 jop.Nop ∷ insn 1 (jop.Number (pos 0)) ∷ insn 2 (jop.TableSwitch 24 (negsuc 0) (24 ∷ 0 ∷ []))
          ∷ insn 24 (jop.Return 0xB1) ∷ [],
    )  -- a tableswitch with 1 bytes of padding
    ∷ (
      0x00 ∷ 0x00 ∷ 0x03 ∷ 0xAA ∷ 0x00 ∷ 0x00 ∷ 0x00 ∷ 0x15 ∷ 0xFF ∷ 0xFF ∷ 0xFF ∷ 0xFF ∷ 0x00 ∷ 0x00 ∷ 0x00 ∷ 0x00
          ∷ 0x00 ∷ 0x00 ∷ 0x00 ∷ 0x15 ∷ 0xFF ∷ 0xFF ∷ 0xFF ∷ 0xFD ∷ 0xB1 ∷ [],
      insn 0 jop.Nop ∷ insn 1 jop.Nop ∷ insn 2 (jop.Number (pos 0)) ∷ insn 3 (jop.TableSwitch 24 (negsuc 0) (24 ∷ 0
          ∷ [])) ∷ insn 24 (jop.Return 0xB1) ∷ [],
    )  -- a tableswitch with 0 bytes of padding
    ∷ (
      0x00 ∷ 0x00 ∷ 0x00 ∷ 0x03 ∷ 0xAA ∷ 0x00 ∷ 0x00 ∷ 0x00 ∷ 0x00 ∷ 0x00 ∷ 0x00 ∷ 0x18 ∷ 0xFF ∷ 0xFF ∷ 0xFF ∷ 0xFF
          ∷ 0x00 ∷ 0x00 ∷ 0x00 ∷ 0x00 ∷ 0x00 ∷ 0x00 ∷ 0x00 ∷ 0x18 ∷ 0xFF ∷ 0xFF ∷ 0xFF ∷ 0xFC ∷ 0xB1 ∷ [],
      insn 0 jop.Nop ∷ insn 1 jop.Nop ∷ insn 2 jop.Nop ∷ insn 3 (jop.Number (pos 0))
          ∷ insn 4 (jop.TableSwitch 28 (negsuc 0) (28 ∷ 0 ∷ [])) ∷ insn 28 (jop.Return 0xB1) ∷ [],
    )  -- a tableswitch with 3 bytes of padding
    ∷ (
      0x03 ∷ 0xAB ∷ 0xFF ∷ 0xFF ∷ 0x00 ∷ 0x00 ∷ 0x00 ∷ 0x1B ∷ 0x00 ∷ 0x00 ∷ 0x00 ∷ 0x02 ∷ 0xFF ∷ 0xFF ∷ 0xFF ∷ 0xF9
          ∷ 0x00 ∷ 0x00 ∷ 0x00 ∷ 0x1B ∷ 0x00 ∷ 0x01 ∷ 0x11 ∷ 0x70 ∷ 0xFF ∷ 0xFF ∷ 0xFF ∷ 0xFF ∷ 0xB1 ∷ [],
      insn 0 (jop.Number (pos 0)) ∷ insn 1 (jop.LookupSwitch 28 (record { value = negsuc 6; target = 28 }
          ∷ record { value = pos 70000; target = 0 } ∷ [])) ∷ insn 28 (jop.Return 0xB1) ∷ [],
    )  -- a lookupswitch with 2 bytes of padding
    ∷ (
      0x00 ∷ 0x03 ∷ 0xAB ∷ 0xFF ∷ 0x00 ∷ 0x00 ∷ 0x00 ∷ 0x1A ∷ 0x00 ∷ 0x00 ∷ 0x00 ∷ 0x02 ∷ 0xFF ∷ 0xFF ∷ 0xFF ∷ 0xF9
          ∷ 0x00 ∷ 0x00 ∷ 0x00 ∷ 0x1A ∷ 0x00 ∷ 0x01 ∷ 0x11 ∷ 0x70 ∷ 0xFF ∷ 0xFF ∷ 0xFF ∷ 0xFE ∷ 0xB1 ∷ [],
      insn 0 jop.Nop ∷ insn 1 (jop.Number (pos 0)) ∷ insn 2 (jop.LookupSwitch 28 (record {
        value = negsuc 6;
        target = 28;
      } ∷ record { value = pos 70000; target = 0 } ∷ [])) ∷ insn 28 (jop.Return 0xB1) ∷ [],
    )  -- a lookupswitch with 1 bytes of padding
    ∷ (
      0x00 ∷ 0x00 ∷ 0x03 ∷ 0xAB ∷ 0x00 ∷ 0x00 ∷ 0x00 ∷ 0x19 ∷ 0x00 ∷ 0x00 ∷ 0x00 ∷ 0x02 ∷ 0xFF ∷ 0xFF ∷ 0xFF ∷ 0xF9
          ∷ 0x00 ∷ 0x00 ∷ 0x00 ∷ 0x19 ∷ 0x00 ∷ 0x01 ∷ 0x11 ∷ 0x70 ∷ 0xFF ∷ 0xFF ∷ 0xFF ∷ 0xFD ∷ 0xB1 ∷ [],
      insn 0 jop.Nop ∷ insn 1 jop.Nop ∷ insn 2 (jop.Number (pos 0))
          ∷ insn 3 (jop.LookupSwitch 28 (record { value = negsuc 6; target = 28 } ∷ record {
            value = pos 70000;
            target = 0;
          } ∷ [])) ∷ insn 28 (jop.Return 0xB1) ∷ [],
    )  -- a lookupswitch with 0 bytes of padding
    ∷ (
      0x00 ∷ 0x00 ∷ 0x00 ∷ 0x03 ∷ 0xAB ∷ 0xFF ∷ 0xFF ∷ 0xFF ∷ 0x00 ∷ 0x00 ∷ 0x00 ∷ 0x1C ∷ 0x00 ∷ 0x00 ∷ 0x00 ∷ 0x02
          ∷ 0xFF ∷ 0xFF ∷ 0xFF ∷ 0xF9 ∷ 0x00 ∷ 0x00 ∷ 0x00 ∷ 0x1C ∷ 0x00 ∷ 0x01 ∷ 0x11 ∷ 0x70 ∷ 0xFF ∷ 0xFF ∷ 0xFF
          ∷ 0xFC ∷ 0xB1 ∷ [],
      insn 0 jop.Nop ∷ insn 1 jop.Nop ∷ insn 2 jop.Nop ∷ insn 3 (jop.Number (pos 0))
          ∷ insn 4 (jop.LookupSwitch 32 (record { value = negsuc 6; target = 32 } ∷ record {
            value = pos 70000;
            target = 0;
          } ∷ [])) ∷ insn 32 (jop.Return 0xB1) ∷ [],
    )  -- a lookupswitch with 3 bytes of padding
    ∷ (
      0xC4 ∷ 0x15 ∷ 0x00 ∷ 0x00 ∷ 0xC4 ∷ 0x36 ∷ 0x00 ∷ 0x00 ∷ 0xC4 ∷ 0x84 ∷ 0x00 ∷ 0x00 ∷ 0xFE ∷ 0x00 ∷ 0xC4 ∷ 0x19
          ∷ 0x00 ∷ 0x00 ∷ 0xB0 ∷ [],
      insn 0 (jop.Load false 0) ∷ insn 4 (jop.Store false 0) ∷ insn 8 (jop.Inc 0 (negsuc 511))
          ∷ insn 14 (jop.Load true 0) ∷ insn 18 (jop.Return 0xB0) ∷ [],
    )  -- the prefix
    ∷ (
      0x01 ∷ 0x3A ∷ 0x00 ∷ 0x19 ∷ 0x00 ∷ 0xBE ∷ 0x84 ∷ 0x00 ∷ 0xFF ∷ 0x10 ∷ 0x80 ∷ 0x11 ∷ 0xFF ∷ 0x00 ∷ 0x12 ∷ 0x01
          ∷ 0x13 ∷ 0x00 ∷ 0x01 ∷ 0xB1 ∷ [],
      insn 0 jop.Null ∷ insn 1 (jop.Store true 0) ∷ insn 3 (jop.Load true 0) ∷ insn 5 jop.ArrayLength
          ∷ insn 6 (jop.Inc 0 (negsuc 0)) ∷ insn 9 (jop.Number (negsuc 127)) ∷ insn 11 (jop.Number (negsuc 255))
          ∷ insn 14 (jop.Number (pos 7)) ∷ insn 16 (jop.Number (pos 7)) ∷ insn 19 (jop.Return 0xB1) ∷ [],
    )  -- constants and locals
    ∷ (
      0xBB ∷ 0x00 ∷ 0x02 ∷ 0xC0 ∷ 0x00 ∷ 0x02 ∷ 0xC1 ∷ 0x00 ∷ 0x02 ∷ 0xBD ∷ 0x00 ∷ 0x02 ∷ 0xBC ∷ 0x0A ∷ 0xBF ∷ [],
      insn 0 (jop.New (codes "q")) ∷ insn 3 (jop.CheckCast (codes "q")) ∷ insn 6 (jop.InstanceOf (codes "q"))
          ∷ insn 9 (jop.ANewArray (codes "q")) ∷ insn 12 (jop.NewArray 10) ∷ insn 14 jop.Throw ∷ [],
    )  -- classes
    ∷ (
      0xB2 ∷ 0x00 ∷ 0x03 ∷ 0xB3 ∷ 0x00 ∷ 0x03 ∷ 0xB4 ∷ 0x00 ∷ 0x03 ∷ 0xB5 ∷ 0x00 ∷ 0x03 ∷ 0xB6 ∷ 0x00 ∷ 0x04 ∷ 0xB7
          ∷ 0x00 ∷ 0x05 ∷ 0xB8 ∷ 0x00 ∷ 0x05 ∷ 0xB9 ∷ 0x00 ∷ 0x05 ∷ 0x01 ∷ 0x00 ∷ 0xA7 ∷ 0xFF ∷ 0xE6 ∷ [],
      insn 0 (jop.Static false member) ∷ insn 3 (jop.Static true member) ∷ insn 6 (jop.Field false member)
          ∷ insn 9 (jop.Field true member) ∷ insn 12 (jop.Call 0xB6 member) ∷ insn 15 (jop.Call 0xB7 member)
          ∷ insn 18 (jop.Call 0xB8 member) ∷ insn 21 (jop.Call 0xB9 member) ∷ insn 26 (jop.Goto 0) ∷ [],
    )  -- members
    ∷ (
      0x03 ∷ 0x99 ∷ 0x00 ∷ 0x03 ∷ 0xC6 ∷ 0xFF ∷ 0xFC ∷ 0xC8 ∷ 0xFF ∷ 0xFF ∷ 0xFF ∷ 0xF9 ∷ [],
      insn 0 (jop.Number (pos 0)) ∷ insn 1 (jop.If 0x99 4) ∷ insn 4 (jop.If 0xC6 0) ∷ insn 7 (jop.Goto 0) ∷ [],
    )  -- jumps
    ∷ (
      0x2E ∷ 0x33 ∷ 0x4F ∷ 0x54 ∷ 0x57 ∷ 0x5F ∷ 0x60 ∷ 0x82 ∷ 0x91 ∷ 0x93 ∷ 0xAC ∷ [],
      insn 0 (jop.ArrayLoad 0x2E) ∷ insn 1 (jop.ArrayLoad 0x33) ∷ insn 2 (jop.ArrayStore 0x4F)
          ∷ insn 3 (jop.ArrayStore 0x54) ∷ insn 4 (jop.Stack 0x57) ∷ insn 5 (jop.Stack 0x5F) ∷ insn 6 (jop.Arith 0x60)
          ∷ insn 7 (jop.Arith 0x82) ∷ insn 8 (jop.Narrow 0x91) ∷ insn 9 (jop.Narrow 0x93) ∷ insn 10 (jop.Return 0xAC)
          ∷ [],
    )  -- the rest
    ∷ []

-- ---- methods whose arguments or handlers break the rule

-- what a lone return is decoded to in a method with these flags and this descriptor
abbrev pub with_method : (flags : ℕ) → (desc : List ℕ) → Result (List JInsn) BrokenAt
with_method flags desc = decoding (class 52) (method flags desc) (code [] (0xB1 ∷ []))

-- over sipush 1, pop and return
abbrev pub with_catch : (start end target : ℕ) → Result (List JInsn) BrokenAt
with_catch start end target = decoding (class 52) (method 9 (codes "()V")) (code (record {
  start = start;
  end = end;
  target = target;
  class = None;
} ∷ []) (0x11 ∷ 0 ∷ 1 ∷ 0x57 ∷ 0xB1 ∷ []))

-- a lone return
abbrev pub returns : Result (List JInsn) BrokenAt
returns = Ok (insn 0 (jop.Return 0xB1) ∷ [])

-- sipush 1, pop and return
abbrev pub pushes : Result (List JInsn) BrokenAt
pushes = Ok (insn 0 (jop.Number (pos 1)) ∷ insn 3 (jop.Stack 0x57) ∷ insn 4 (jop.Return 0xB1) ∷ [])

-- what other codes are decoded to, and what they should be
abbrev pub others : List (Result (List JInsn) BrokenAt × Result (List JInsn) BrokenAt)
others =
    (with_method 9 (codes "(S)V"), returns)
    ∷ (with_method 9 (codes "(SS)V"), broken 103 0)  -- more parameters than locals
    ∷ (with_method 1 (codes "(S)V"), broken 103 0)  -- with `this`
    ∷ (with_method 9 (codes "(J)V"), returns)  -- a long takes one
    ∷ (with_catch 0 5 3, pushes)  -- an end at the code's length
    ∷ (with_catch 0 3 4, pushes)
    ∷ (with_catch 1 5 3, broken 103 1)
    ∷ (with_catch 0 2 3, broken 103 2)
    ∷ (with_catch 0 5 2, broken 103 2)
    -- invokestatic of an InterfaceMethodref before version 52
    ∷ (decoding (class 51) (method 9 (codes "()V")) (code [] (0xB8 ∷ 0 ∷ 5 ∷ 0xB1 ∷ [])), broken 103 0)
    ∷ []
