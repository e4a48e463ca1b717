-- What the data of the code's table stands for.
use Rattle.std.specs.Prelude.{ℕ, List, Option, Some, None, Bool, true, false, ℤ, pos}
use Rattle.std.specs.Int.{Width, w16, w32, int_bit_and, int_bit_or, int_bit_xor}
use Rattle.std.specs.Int.RustNames.{int_div, int_rem, int_lt, int_le}
use Rattle.cjc_card_semantics.specs.Range.Words.{low_word, low_byte}
use Rattle.cjc_card_semantics.specs.Bytecode.Numbers.{is_zero, same_number, sum, difference, product, negated}
use Rattle.cjc_card_semantics.specs.Bytecode.Numbers.{shifted_left, shifted_right, shifted_unsigned, compared}
use Rattle.cjc_card_semantics.specs.Bytecode.Calculations.{Calculation, Test, none, always, constant, int_constant}
use Rattle.cjc_card_semantics.specs.Bytecode.Calculations.{null, literal, int_literal, numbered, load_reference}
use Rattle.cjc_card_semantics.specs.Bytecode.Calculations.{load_word, load_int, store_if, is_reference, is_number}
use Rattle.cjc_card_semantics.specs.Bytecode.Calculations.{store_int, increased, int_increased, popped, copied}
use Rattle.cjc_card_semantics.specs.Bytecode.Calculations.{by_nibbles, dup_x, swap_x, unary, binary, divided, int_unary}
use Rattle.cjc_card_semantics.specs.Bytecode.Calculations.{int_binary, int_divided, to_int, from_int, from_ints}
use Rattle.cjc_card_semantics.specs.Bytecode.Calculations.{if_number, if_numbers, if_null, if_same, flipped, at_once}
use Rattle.cjc_card_semantics.specs.Bytecode.Effects
use Rattle.cjc_card_semantics.specs.Bytecode.Effects.{Letter, Access}
use Rattle.cjc_card_semantics.specs.Bytecode.Meanings.{Meaning, Use, Mode}
use Rattle.cjc_card_semantics.specs.Bytecode.Meanings
use Rattle.cjc_card_frame.specs.declared.opcodes.kinds.Letter.{Letter as LetterData}
use Rattle.cjc_card_frame.specs.declared.opcodes.kinds.Letter.TheVariants as letters
use Rattle.cjc_card_frame.specs.declared.opcodes.kinds.Kind.{Kind}
use Rattle.cjc_card_frame.specs.declared.opcodes.kinds.Kind.TheVariants as kinds
use Rattle.cjc_card_frame.specs.declared.opcodes.kinds.Operation.{Operation}
use Rattle.cjc_card_frame.specs.declared.opcodes.kinds.Operation.TheVariants as operations
use Rattle.cjc_card_frame.specs.declared.opcodes.kinds.Division.{Division}
use Rattle.cjc_card_frame.specs.declared.opcodes.kinds.Division.TheVariants as divisions
use Rattle.cjc_card_frame.specs.declared.opcodes.kinds.Relation.{Relation}
use Rattle.cjc_card_frame.specs.declared.opcodes.kinds.Relation.TheVariants as relations
use Rattle.cjc_card_frame.specs.declared.opcodes.kinds.Calculation.{Calculation as CalculationData}
use Rattle.cjc_card_frame.specs.declared.opcodes.kinds.Calculation.TheVariants as calculations
use Rattle.cjc_card_frame.specs.declared.opcodes.kinds.Condition.{Condition}
use Rattle.cjc_card_frame.specs.declared.opcodes.kinds.Condition.TheVariants as conditions
use Rattle.cjc_card_frame.specs.declared.opcodes.kinds.Access.{Access as AccessData}
use Rattle.cjc_card_frame.specs.declared.opcodes.kinds.Access.TheVariants as accesses
use Rattle.cjc_card_frame.specs.declared.opcodes.kinds.Mode.{Mode as ModeData}
use Rattle.cjc_card_frame.specs.declared.opcodes.kinds.Mode.TheVariants as modes
use Rattle.cjc_card_frame.specs.declared.opcodes.kinds.Use.{Use as UseData}
use Rattle.cjc_card_frame.specs.declared.opcodes.kinds.Use.TheVariants as uses
use Rattle.cjc_card_frame.specs.declared.opcodes.kinds.Meaning.{Meaning as MeaningData}
use Rattle.cjc_card_frame.specs.declared.opcodes.kinds.Meaning.TheVariants as meanings

-- ---- numbers

-- what an operation gives before it is cut, in so many bits
abbrev pub exact : Width → Operation → ℤ → ℤ → ℤ
exact w operations.Sum = sum
exact w operations.Difference = difference
exact w operations.Product = product
exact w operations.ShiftLeft = shifted_left
exact w operations.ShiftRight = shifted_right
exact w operations.ShiftUnsigned = shifted_unsigned
exact w operations.And = int_bit_and w
exact w operations.Or = int_bit_or w
exact w operations.Xor = int_bit_xor w

-- what a division gives
abbrev pub exact_division : Division → ℤ → ℤ → ℤ
exact_division divisions.Quotient = int_div
exact_division divisions.Remainder = int_rem

-- a number beside 0
abbrev pub against_zero : Relation → ℤ → Bool
against_zero relations.Equal = is_zero
against_zero relations.NotEqual = λ x. flipped (is_zero x)
against_zero relations.Less = λ x. int_lt x (pos 0)
against_zero relations.NotLess = λ x. int_le (pos 0) x
against_zero relations.Greater = λ x. int_lt (pos 0) x
against_zero relations.NotGreater = λ x. int_le x (pos 0)

-- one number beside another
abbrev pub between : Relation → ℤ → ℤ → Bool
between relations.Equal = same_number
between relations.NotEqual = λ x y. flipped (same_number x y)
between relations.Less = int_lt
between relations.NotLess = λ x y. int_le y x
between relations.Greater = λ x y. int_lt y x
between relations.NotGreater = int_le

-- ---- calculations and conditions

-- what a local holds is pushed
abbrev pub load_of : Kind → ℕ → Calculation
load_of kinds.Reference = load_reference
load_of kinds.Word = load_word
load_of kinds.Int = load_int

-- what is on top goes into a local
abbrev pub store_of : Kind → ℕ → Calculation
store_of kinds.Reference = store_if is_reference
store_of kinds.Word = store_if is_number
store_of kinds.Int = store_int

-- by the operands
abbrev pub calculation_of : CalculationData → List ℤ → Calculation
calculation_of calculations.Nothing = none
calculation_of calculations.Null = null
calculation_of (calculations.Word z) = constant z
calculation_of (calculations.Int z) = int_constant z
calculation_of calculations.Literal = literal
calculation_of calculations.IntLiteral = int_literal
calculation_of (calculations.Load kind) = numbered (load_of kind)
calculation_of (calculations.LoadAt kind l) = always (load_of kind l)
calculation_of (calculations.Store kind) = numbered (store_of kind)
calculation_of (calculations.StoreAt kind l) = always (store_of kind l)
calculation_of calculations.Increase = increased
calculation_of calculations.IncreaseInt = int_increased
calculation_of (calculations.Pop n) = always (popped n)
calculation_of (calculations.Copy n) = always (copied n n)
calculation_of calculations.CopyBelow = by_nibbles dup_x
calculation_of calculations.Swap = by_nibbles swap_x
calculation_of (calculations.Words op) = binary (exact w16 op)
calculation_of (calculations.Ints op) = int_binary (exact w32 op)
calculation_of (calculations.DivideWords op) = divided (exact_division op)
calculation_of (calculations.DivideInts op) = int_divided (exact_division op)
calculation_of calculations.NegateWord = unary negated
calculation_of calculations.NegateInt = int_unary negated
calculation_of calculations.WordToByte = unary low_byte
calculation_of calculations.WordToInt = to_int
calculation_of calculations.IntToByte = from_int low_byte
calculation_of calculations.IntToWord = from_int low_word
calculation_of calculations.CompareInts = from_ints compared

-- the condition of a jump
abbrev pub test_of : Condition → Test
test_of (conditions.Number relation) = if_number (against_zero relation)
test_of (conditions.Numbers relation) = if_numbers (between relation)
test_of (conditions.Null t) = if_null t
test_of (conditions.Same t) = if_same t
test_of conditions.Always = at_once

-- ---- meanings

-- the kind of a value that an opcode moves: a reference, a byte, a short or an int
abbrev pub letter_of : LetterData → Letter
letter_of letters.Reference = Effects.Reference
letter_of letters.Byte = Effects.Byte
letter_of letters.Short = Effects.Short
letter_of letters.Int = Effects.Int

-- of a return
abbrev pub letter_if : Option LetterData → Option Letter
letter_if None = None
letter_if (Some letter) = Some (letter_of letter)

-- a load or a store of an array's element, arraylength, athrow or a return
abbrev pub access_of : AccessData → Access
access_of (accesses.Load letter) = Effects.Load (letter_of letter)
access_of (accesses.Store letter) = Effects.Store (letter_of letter)
access_of accesses.Length = Effects.Length
access_of accesses.Throw = Effects.Throw
access_of (accesses.Return letter) = Effects.Return (letter_if letter)

-- a call by invokevirtual, invokespecial or invokestatic
abbrev pub mode_of : ModeData → Mode
mode_of modes.Virtual = Meanings.Virtual
mode_of modes.Special = Meanings.Special
mode_of modes.Static = Meanings.Static

-- a use of a pool entry: access to a field, a call, new or anewarray
abbrev pub use_of : UseData → Use
use_of (uses.Get this letter) = Meanings.Gets this (letter_of letter)
use_of (uses.Put this letter) = Meanings.Puts this (letter_of letter)
use_of (uses.GetStatic letter) = Meanings.GetsStatic (letter_of letter)
use_of (uses.PutStatic letter) = Meanings.PutsStatic (letter_of letter)
use_of (uses.Call mode) = Meanings.Calls (mode_of mode)
use_of uses.New = Meanings.Makes
use_of uses.NewReferences = Meanings.MakesReferences

-- The meaning of an opcode.
abbrev pub meaning_of : MeaningData → Meaning
meaning_of (meanings.Plain calculation) = Meanings.Plain (calculation_of calculation)
meaning_of (meanings.Branch condition) = Meanings.Branches (test_of condition)
meaning_of (meanings.Ranged is_int) = Meanings.Ranged is_int
meaning_of (meanings.Paired is_int) = Meanings.Paired is_int
meaning_of (meanings.Touch access) = Meanings.Touches (access_of access)
meaning_of (meanings.Use how) = Meanings.Uses (use_of how)
meaning_of meanings.CallInterface = Meanings.CallsInterface
meaning_of meanings.NewNumbers = Meanings.MakesNumbers
meaning_of meanings.Cast = Meanings.Casts
meaning_of meanings.Ask = Meanings.Asks
meaning_of meanings.Nothing = Meanings.Nothing

-- the operand is pushed as a word
abbrev pub is_literal : MeaningData → Bool
is_literal (meanings.Plain calculations.Literal) = true
is_literal m = false
