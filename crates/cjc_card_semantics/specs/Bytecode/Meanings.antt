-- What each opcode of the card means (Java Card Virtual Machine Specification 2.2.2, chapter 7).
use Rattle.std.specs.Prelude.{ℕ, List, ◌++◌, replicate, Option, Some, None, Bool, true, false, slice_get, ℤ, pos}
use Rattle.std.specs.Prelude.{negsuc}
use Rattle.std.specs.Int.{w16, w32, int_bit_and, int_bit_or, int_bit_xor}
use Rattle.std.specs.Int.RustNames.{int_div, int_rem, int_lt, int_le}
use Rattle.cjc_range.specs.Words.{low_word, low_byte}
use Rattle.cjc_card_semantics.specs.Bytecode.Numbers.{is_zero, same_number, sum, difference, product, negated}
use Rattle.cjc_card_semantics.specs.Bytecode.Numbers.{shifted_left, shifted_right, shifted_unsigned, compared}
use Rattle.cjc_card_semantics.specs.Bytecode.Calculations.{Calculation, Test, none, always, constant, int_constant}
use Rattle.cjc_card_semantics.specs.Bytecode.Calculations.{null, literal, int_literal, numbered, load_reference}
use Rattle.cjc_card_semantics.specs.Bytecode.Calculations.{load_word, load_int, store_if, is_reference, is_number}
use Rattle.cjc_card_semantics.specs.Bytecode.Calculations.{store_int, increased, int_increased, popped, copied}
use Rattle.cjc_card_semantics.specs.Bytecode.Calculations.{by_nibbles, dup_x, swap_x, unary, binary, divided, int_unary}
use Rattle.cjc_card_semantics.specs.Bytecode.Calculations.{int_binary, int_divided, to_int, from_int, from_ints}
use Rattle.cjc_card_semantics.specs.Bytecode.Calculations.{if_number, if_numbers, if_null, if_same, flipped, at_once}
use Rattle.cjc_card_semantics.specs.Bytecode.Effects.{Letter, Reference, Byte, Short, Int, Access, Load, Store, Length}
use Rattle.cjc_card_semantics.specs.Bytecode.Effects.{Throw, Return}

-- how a method is called by an entry of the pool
pub data Mode : Type 0 where
  Virtual : Mode
  Special : Mode
  Static : Mode

-- what is done with what an entry of the pool names
pub data Use : Type 0 where
  Gets : (this : Bool) (letter : Letter) → Use
  Puts : (this : Bool) (letter : Letter) → Use
  GetsStatic : (letter : Letter) → Use
  PutsStatic : (letter : Letter) → Use
  Calls : (mode : Mode) → Use
  Makes : Use
  MakesReferences : Use

-- what an opcode means, to be told of its operands
pub data Meaning : Type 0 where
  -- a calculation on the stack and the locals
  Plain : (calculation : List ℤ → Calculation) → Meaning
  -- a jump where a condition holds
  Branches : (test : Test) → Meaning
  -- a switch over the numbers from a low one on, or over matches, by a word or an int
  Ranged : (is_int : Bool) → Meaning
  Paired : (is_int : Bool) → Meaning
  -- what sees the heap and no name, and returns
  Touches : (access : Access) → Meaning
  -- what an entry of the constant pool names
  Uses : (how : Use) → Meaning
  CallsInterface : Meaning
  MakesNumbers : Meaning
  -- checkcast and instanceof
  Casts : Meaning
  Asks : Meaning
  -- no row of the machine: jsr, ret and the reserved opcodes
  Nothing : Meaning

-- the meaning of each opcode from 00 to B8
abbrev pub meanings : List Meaning
meanings =
    replicate 1 (Plain none)  -- 00 nop
    ++ replicate 1 (Plain null)  -- 01 aconst_null
    ++ replicate 1 (Plain (constant (negsuc 0)))  -- 02 sconst_m1
    ++ replicate 1 (Plain (constant (pos 0)))  -- 03 sconst_0
    ++ replicate 1 (Plain (constant (pos 1)))  -- 04 sconst_1
    ++ replicate 1 (Plain (constant (pos 2)))  -- 05 sconst_2
    ++ replicate 1 (Plain (constant (pos 3)))  -- 06 sconst_3
    ++ replicate 1 (Plain (constant (pos 4)))  -- 07 sconst_4
    ++ replicate 1 (Plain (constant (pos 5)))  -- 08 sconst_5
    ++ replicate 1 (Plain (int_constant (negsuc 0)))  -- 09 iconst_m1
    ++ replicate 1 (Plain (int_constant (pos 0)))  -- 0A iconst_0
    ++ replicate 1 (Plain (int_constant (pos 1)))  -- 0B iconst_1
    ++ replicate 1 (Plain (int_constant (pos 2)))  -- 0C iconst_2
    ++ replicate 1 (Plain (int_constant (pos 3)))  -- 0D iconst_3
    ++ replicate 1 (Plain (int_constant (pos 4)))  -- 0E iconst_4
    ++ replicate 1 (Plain (int_constant (pos 5)))  -- 0F iconst_5
    ++ replicate 2 (Plain literal)  -- 10 to 11 bspush to sspush
    ++ replicate 3 (Plain int_literal)  -- 12 to 14 bipush to iipush
    ++ replicate 1 (Plain (numbered load_reference))  -- 15 aload
    ++ replicate 1 (Plain (numbered load_word))  -- 16 sload
    ++ replicate 1 (Plain (numbered load_int))  -- 17 iload
    ++ replicate 1 (Plain (always (load_reference 0)))  -- 18 aload_0
    ++ replicate 1 (Plain (always (load_reference 1)))  -- 19 aload_1
    ++ replicate 1 (Plain (always (load_reference 2)))  -- 1A aload_2
    ++ replicate 1 (Plain (always (load_reference 3)))  -- 1B aload_3
    ++ replicate 1 (Plain (always (load_word 0)))  -- 1C sload_0
    ++ replicate 1 (Plain (always (load_word 1)))  -- 1D sload_1
    ++ replicate 1 (Plain (always (load_word 2)))  -- 1E sload_2
    ++ replicate 1 (Plain (always (load_word 3)))  -- 1F sload_3
    ++ replicate 1 (Plain (always (load_int 0)))  -- 20 iload_0
    ++ replicate 1 (Plain (always (load_int 1)))  -- 21 iload_1
    ++ replicate 1 (Plain (always (load_int 2)))  -- 22 iload_2
    ++ replicate 1 (Plain (always (load_int 3)))  -- 23 iload_3
    ++ replicate 1 (Touches (Load Reference))  -- 24 aaload
    ++ replicate 1 (Touches (Load Byte))  -- 25 baload
    ++ replicate 1 (Touches (Load Short))  -- 26 saload
    ++ replicate 1 (Touches (Load Int))  -- 27 iaload
    ++ replicate 1 (Plain (numbered (store_if is_reference)))  -- 28 astore
    ++ replicate 1 (Plain (numbered (store_if is_number)))  -- 29 sstore
    ++ replicate 1 (Plain (numbered store_int))  -- 2A istore
    ++ replicate 1 (Plain (always (store_if is_reference 0)))  -- 2B astore_0
    ++ replicate 1 (Plain (always (store_if is_reference 1)))  -- 2C astore_1
    ++ replicate 1 (Plain (always (store_if is_reference 2)))  -- 2D astore_2
    ++ replicate 1 (Plain (always (store_if is_reference 3)))  -- 2E astore_3
    ++ replicate 1 (Plain (always (store_if is_number 0)))  -- 2F sstore_0
    ++ replicate 1 (Plain (always (store_if is_number 1)))  -- 30 sstore_1
    ++ replicate 1 (Plain (always (store_if is_number 2)))  -- 31 sstore_2
    ++ replicate 1 (Plain (always (store_if is_number 3)))  -- 32 sstore_3
    ++ replicate 1 (Plain (always (store_int 0)))  -- 33 istore_0
    ++ replicate 1 (Plain (always (store_int 1)))  -- 34 istore_1
    ++ replicate 1 (Plain (always (store_int 2)))  -- 35 istore_2
    ++ replicate 1 (Plain (always (store_int 3)))  -- 36 istore_3
    ++ replicate 1 (Touches (Store Reference))  -- 37 aastore
    ++ replicate 1 (Touches (Store Byte))  -- 38 bastore
    ++ replicate 1 (Touches (Store Short))  -- 39 sastore
    ++ replicate 1 (Touches (Store Int))  -- 3A iastore
    ++ replicate 1 (Plain (always (popped 1)))  -- 3B pop
    ++ replicate 1 (Plain (always (popped 2)))  -- 3C pop2
    ++ replicate 1 (Plain (always (copied 1 1)))  -- 3D dup
    ++ replicate 1 (Plain (always (copied 2 2)))  -- 3E dup2
    ++ replicate 1 (Plain (by_nibbles dup_x))  -- 3F dup_x
    ++ replicate 1 (Plain (by_nibbles swap_x))  -- 40 swap_x
    ++ replicate 1 (Plain (binary sum))  -- 41 sadd
    ++ replicate 1 (Plain (int_binary sum))  -- 42 iadd
    ++ replicate 1 (Plain (binary difference))  -- 43 ssub
    ++ replicate 1 (Plain (int_binary difference))  -- 44 isub
    ++ replicate 1 (Plain (binary product))  -- 45 smul
    ++ replicate 1 (Plain (int_binary product))  -- 46 imul
    ++ replicate 1 (Plain (divided int_div))  -- 47 sdiv
    ++ replicate 1 (Plain (int_divided int_div))  -- 48 idiv
    ++ replicate 1 (Plain (divided int_rem))  -- 49 srem
    ++ replicate 1 (Plain (int_divided int_rem))  -- 4A irem
    ++ replicate 1 (Plain (unary negated))  -- 4B sneg
    ++ replicate 1 (Plain (int_unary negated))  -- 4C ineg
    ++ replicate 1 (Plain (binary shifted_left))  -- 4D sshl
    ++ replicate 1 (Plain (int_binary shifted_left))  -- 4E ishl
    ++ replicate 1 (Plain (binary shifted_right))  -- 4F sshr
    ++ replicate 1 (Plain (int_binary shifted_right))  -- 50 ishr
    ++ replicate 1 (Plain (binary shifted_unsigned))  -- 51 sushr
    ++ replicate 1 (Plain (int_binary shifted_unsigned))  -- 52 iushr
    ++ replicate 1 (Plain (binary (int_bit_and w16)))  -- 53 sand
    ++ replicate 1 (Plain (int_binary (int_bit_and w32)))  -- 54 iand
    ++ replicate 1 (Plain (binary (int_bit_or w16)))  -- 55 sor
    ++ replicate 1 (Plain (int_binary (int_bit_or w32)))  -- 56 ior
    ++ replicate 1 (Plain (binary (int_bit_xor w16)))  -- 57 sxor
    ++ replicate 1 (Plain (int_binary (int_bit_xor w32)))  -- 58 ixor
    ++ replicate 1 (Plain increased)  -- 59 sinc
    ++ replicate 1 (Plain int_increased)  -- 5A iinc
    ++ replicate 1 (Plain (unary low_byte))  -- 5B s2b
    ++ replicate 1 (Plain to_int)  -- 5C s2i
    ++ replicate 1 (Plain (from_int low_byte))  -- 5D i2b
    ++ replicate 1 (Plain (from_int low_word))  -- 5E i2s
    ++ replicate 1 (Plain (from_ints compared))  -- 5F icmp
    ++ replicate 1 (Branches (if_number is_zero))  -- 60 ifeq
    ++ replicate 1 (Branches (if_number (λ x. flipped (is_zero x))))  -- 61 ifne
    ++ replicate 1 (Branches (if_number (λ x. int_lt x (pos 0))))  -- 62 iflt
    ++ replicate 1 (Branches (if_number (λ x. int_le (pos 0) x)))  -- 63 ifge
    ++ replicate 1 (Branches (if_number (λ x. int_lt (pos 0) x)))  -- 64 ifgt
    ++ replicate 1 (Branches (if_number (λ x. int_le x (pos 0))))  -- 65 ifle
    ++ replicate 1 (Branches (if_null true))  -- 66 ifnull
    ++ replicate 1 (Branches (if_null false))  -- 67 ifnonnull
    ++ replicate 1 (Branches (if_same true))  -- 68 if_acmpeq
    ++ replicate 1 (Branches (if_same false))  -- 69 if_acmpne
    ++ replicate 1 (Branches (if_numbers same_number))  -- 6A if_scmpeq
    ++ replicate 1 (Branches (if_numbers (λ x y. flipped (same_number x y))))  -- 6B if_scmpne
    ++ replicate 1 (Branches (if_numbers int_lt))  -- 6C if_scmplt
    ++ replicate 1 (Branches (if_numbers (λ x y. int_le y x)))  -- 6D if_scmpge
    ++ replicate 1 (Branches (if_numbers (λ x y. int_lt y x)))  -- 6E if_scmpgt
    ++ replicate 1 (Branches (if_numbers int_le))  -- 6F if_scmple
    ++ replicate 1 (Branches at_once)  -- 70 goto
    ++ replicate 2 (Nothing)  -- 71 to 72 jsr to ret
    ++ replicate 1 (Ranged false)  -- 73 stableswitch
    ++ replicate 1 (Ranged true)  -- 74 itableswitch
    ++ replicate 1 (Paired false)  -- 75 slookupswitch
    ++ replicate 1 (Paired true)  -- 76 ilookupswitch
    ++ replicate 1 (Touches (Return (Some Reference)))  -- 77 areturn
    ++ replicate 1 (Touches (Return (Some Short)))  -- 78 sreturn
    ++ replicate 1 (Touches (Return (Some Int)))  -- 79 ireturn
    ++ replicate 1 (Touches (Return None))  -- 7A return
    ++ replicate 1 (Uses (GetsStatic Reference))  -- 7B getstatic_a
    ++ replicate 1 (Uses (GetsStatic Byte))  -- 7C getstatic_b
    ++ replicate 1 (Uses (GetsStatic Short))  -- 7D getstatic_s
    ++ replicate 1 (Uses (GetsStatic Int))  -- 7E getstatic_i
    ++ replicate 1 (Uses (PutsStatic Reference))  -- 7F putstatic_a
    ++ replicate 1 (Uses (PutsStatic Byte))  -- 80 putstatic_b
    ++ replicate 1 (Uses (PutsStatic Short))  -- 81 putstatic_s
    ++ replicate 1 (Uses (PutsStatic Int))  -- 82 putstatic_i
    ++ replicate 1 (Uses (Gets false Reference))  -- 83 getfield_a
    ++ replicate 1 (Uses (Gets false Byte))  -- 84 getfield_b
    ++ replicate 1 (Uses (Gets false Short))  -- 85 getfield_s
    ++ replicate 1 (Uses (Gets false Int))  -- 86 getfield_i
    ++ replicate 1 (Uses (Puts false Reference))  -- 87 putfield_a
    ++ replicate 1 (Uses (Puts false Byte))  -- 88 putfield_b
    ++ replicate 1 (Uses (Puts false Short))  -- 89 putfield_s
    ++ replicate 1 (Uses (Puts false Int))  -- 8A putfield_i
    ++ replicate 1 (Uses (Calls Virtual))  -- 8B invokevirtual
    ++ replicate 1 (Uses (Calls Special))  -- 8C invokespecial
    ++ replicate 1 (Uses (Calls Static))  -- 8D invokestatic
    ++ replicate 1 (CallsInterface)  -- 8E invokeinterface
    ++ replicate 1 (Uses Makes)  -- 8F new
    ++ replicate 1 (MakesNumbers)  -- 90 newarray
    ++ replicate 1 (Uses MakesReferences)  -- 91 anewarray
    ++ replicate 1 (Touches Length)  -- 92 arraylength
    ++ replicate 1 (Touches Throw)  -- 93 athrow
    ++ replicate 1 (Casts)  -- 94 checkcast
    ++ replicate 1 (Asks)  -- 95 instanceof
    ++ replicate 1 (Plain increased)  -- 96 sinc_w
    ++ replicate 1 (Plain int_increased)  -- 97 iinc_w
    ++ replicate 1 (Branches (if_number is_zero))  -- 98 ifeq_w
    ++ replicate 1 (Branches (if_number (λ x. flipped (is_zero x))))  -- 99 ifne_w
    ++ replicate 1 (Branches (if_number (λ x. int_lt x (pos 0))))  -- 9A iflt_w
    ++ replicate 1 (Branches (if_number (λ x. int_le (pos 0) x)))  -- 9B ifge_w
    ++ replicate 1 (Branches (if_number (λ x. int_lt (pos 0) x)))  -- 9C ifgt_w
    ++ replicate 1 (Branches (if_number (λ x. int_le x (pos 0))))  -- 9D ifle_w
    ++ replicate 1 (Branches (if_null true))  -- 9E ifnull_w
    ++ replicate 1 (Branches (if_null false))  -- 9F ifnonnull_w
    ++ replicate 1 (Branches (if_same true))  -- A0 if_acmpeq_w
    ++ replicate 1 (Branches (if_same false))  -- A1 if_acmpne_w
    ++ replicate 1 (Branches (if_numbers same_number))  -- A2 if_scmpeq_w
    ++ replicate 1 (Branches (if_numbers (λ x y. flipped (same_number x y))))  -- A3 if_scmpne_w
    ++ replicate 1 (Branches (if_numbers int_lt))  -- A4 if_scmplt_w
    ++ replicate 1 (Branches (if_numbers (λ x y. int_le y x)))  -- A5 if_scmpge_w
    ++ replicate 1 (Branches (if_numbers (λ x y. int_lt y x)))  -- A6 if_scmpgt_w
    ++ replicate 1 (Branches (if_numbers int_le))  -- A7 if_scmple_w
    ++ replicate 1 (Branches at_once)  -- A8 goto_w
    ++ replicate 1 (Uses (Gets false Reference))  -- A9 getfield_a_w
    ++ replicate 1 (Uses (Gets false Byte))  -- AA getfield_b_w
    ++ replicate 1 (Uses (Gets false Short))  -- AB getfield_s_w
    ++ replicate 1 (Uses (Gets false Int))  -- AC getfield_i_w
    ++ replicate 1 (Uses (Gets true Reference))  -- AD getfield_a_this
    ++ replicate 1 (Uses (Gets true Byte))  -- AE getfield_b_this
    ++ replicate 1 (Uses (Gets true Short))  -- AF getfield_s_this
    ++ replicate 1 (Uses (Gets true Int))  -- B0 getfield_i_this
    ++ replicate 1 (Uses (Puts false Reference))  -- B1 putfield_a_w
    ++ replicate 1 (Uses (Puts false Byte))  -- B2 putfield_b_w
    ++ replicate 1 (Uses (Puts false Short))  -- B3 putfield_s_w
    ++ replicate 1 (Uses (Puts false Int))  -- B4 putfield_i_w
    ++ replicate 1 (Uses (Puts true Reference))  -- B5 putfield_a_this
    ++ replicate 1 (Uses (Puts true Byte))  -- B6 putfield_b_this
    ++ replicate 1 (Uses (Puts true Short))  -- B7 putfield_s_this
    ++ replicate 1 (Uses (Puts true Int))  -- B8 putfield_i_this

-- nothing past the table
abbrev pub known_meaning : Option Meaning → Meaning
known_meaning None = Nothing
known_meaning (Some meaning) = meaning

-- The meaning of an opcode; nothing where there is no such opcode, and for impdep1 and impdep2.
unfoldable pub meaning : ℕ → Meaning
meaning op = known_meaning (slice_get meanings op)
