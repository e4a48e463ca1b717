-- Each row of the table of opcodes stands beside the meaning of its opcode and the form of its operands.
use Rattle.std.specs.Prelude.{ℕ, zero, suc, slice_get, option_and_then, true, false, List, [], ◌∷◌, Option, Some}
use Rattle.std.specs.Prelude.{None, pos, negsuc}
use Rattle.std.specs.Int.{w16, w32, int_bit_and, int_bit_or, int_bit_xor}
use Rattle.std.specs.Int.RustNames.{int_div, int_rem, int_lt, int_le}
use Rattle.cjc_card_semantics.specs.Range.Words.{low_word, low_byte}
use Rattle.cjc_card_semantics.specs.CapRead.Opcodes.{Form, forms, form, Signed1, Signed2, Signed4}
use Rattle.cjc_card_semantics.specs.Bytecode.Numbers.{is_zero, same_number, sum, difference, product, negated}
use Rattle.cjc_card_semantics.specs.Bytecode.Numbers.{shifted_left, shifted_right, shifted_unsigned, compared}
use Rattle.cjc_card_semantics.specs.Bytecode.Calculations.{flipped}
use Rattle.cjc_card_semantics.specs.Bytecode.Effects.{Reference, Byte, Short, Int}
use Rattle.cjc_card_semantics.specs.Bytecode.Meanings.{Meaning, meanings, meaning, known_meaning}
use Rattle.cjc_card_acts.specs.Rows.{Row, rows, row, known_row}
use Rattle.cjc_verify_proof.specs.Beside.{Beside, AllBeside, nop, null, constant, int_constant, literal, int_literal}
use Rattle.cjc_verify_proof.specs.Beside.{aload, sload, iload, aload_n, sload_n, iload_n, astore, sstore, istore}
use Rattle.cjc_verify_proof.specs.Beside.{astore_n, sstore_n, istore_n, sinc, iinc, pop, dup, dup_x, swap_x, unary}
use Rattle.cjc_verify_proof.specs.Beside.{binary, divided, int_unary, int_binary, int_divided, to_int, from_int}
use Rattle.cjc_verify_proof.specs.Beside.{from_ints, number, numbers, a_null, same, goto, plain, jump, table, int_table}
use Rattle.cjc_verify_proof.specs.Beside.{lookup, int_lookup, load, store, arraylength, athrow, return, uses}
use Rattle.cjc_verify_proof.specs.Beside.{invokeinterface, newarray, checkcast, instanceof, forbidden}

infixr 4 ◌▹◌
-- one more in front
◌▹◌ : {A B : Type 0} → A → B → A × B
x ▹ y = (x, y)

pub all_beside : AllBeside rows meanings forms
unfolding forms
all_beside =
    plain nop
    ▹ plain null
    ▹ plain (constant (negsuc 0))
    ▹ plain (constant (pos 0))
    ▹ plain (constant (pos 1))
    ▹ plain (constant (pos 2))
    ▹ plain (constant (pos 3))
    ▹ plain (constant (pos 4))
    ▹ plain (constant (pos 5))
    ▹ plain (int_constant (negsuc 0))
    ▹ plain (int_constant (pos 0))
    ▹ plain (int_constant (pos 1))
    ▹ plain (int_constant (pos 2))
    ▹ plain (int_constant (pos 3))
    ▹ plain (int_constant (pos 4))
    ▹ plain (int_constant (pos 5))
    ▹ plain (literal Signed1)
    ▹ plain (literal Signed2)
    ▹ plain (int_literal Signed1)
    ▹ plain (int_literal Signed2)
    ▹ plain (int_literal Signed4)
    ▹ plain aload
    ▹ plain sload
    ▹ plain iload
    ▹ plain (aload_n 0)
    ▹ plain (aload_n 1)
    ▹ plain (aload_n 2)
    ▹ plain (aload_n 3)
    ▹ plain (sload_n 0)
    ▹ plain (sload_n 1)
    ▹ plain (sload_n 2)
    ▹ plain (sload_n 3)
    ▹ plain (iload_n 0)
    ▹ plain (iload_n 1)
    ▹ plain (iload_n 2)
    ▹ plain (iload_n 3)
    ▹ load Reference
    ▹ load Byte
    ▹ load Short
    ▹ load Int
    ▹ plain astore
    ▹ plain sstore
    ▹ plain istore
    ▹ plain (astore_n 0)
    ▹ plain (astore_n 1)
    ▹ plain (astore_n 2)
    ▹ plain (astore_n 3)
    ▹ plain (sstore_n 0)
    ▹ plain (sstore_n 1)
    ▹ plain (sstore_n 2)
    ▹ plain (sstore_n 3)
    ▹ plain (istore_n 0)
    ▹ plain (istore_n 1)
    ▹ plain (istore_n 2)
    ▹ plain (istore_n 3)
    ▹ store Reference
    ▹ store Byte
    ▹ store Short
    ▹ store Int
    ▹ plain (pop 1)
    ▹ plain (pop 2)
    ▹ plain (dup 1)
    ▹ plain (dup 2)
    ▹ plain dup_x
    ▹ plain swap_x
    ▹ plain (binary sum)
    ▹ plain (int_binary sum)
    ▹ plain (binary difference)
    ▹ plain (int_binary difference)
    ▹ plain (binary product)
    ▹ plain (int_binary product)
    ▹ plain (divided int_div)
    ▹ plain (int_divided int_div)
    ▹ plain (divided int_rem)
    ▹ plain (int_divided int_rem)
    ▹ plain (unary negated)
    ▹ plain (int_unary negated)
    ▹ plain (binary shifted_left)
    ▹ plain (int_binary shifted_left)
    ▹ plain (binary shifted_right)
    ▹ plain (int_binary shifted_right)
    ▹ plain (binary shifted_unsigned)
    ▹ plain (int_binary shifted_unsigned)
    ▹ plain (binary (int_bit_and w16))
    ▹ plain (int_binary (int_bit_and w32))
    ▹ plain (binary (int_bit_or w16))
    ▹ plain (int_binary (int_bit_or w32))
    ▹ plain (binary (int_bit_xor w16))
    ▹ plain (int_binary (int_bit_xor w32))
    ▹ plain (sinc Signed1)
    ▹ plain (iinc Signed1)
    ▹ plain (unary low_byte)
    ▹ plain to_int
    ▹ plain (from_int low_byte)
    ▹ plain (from_int low_word)
    ▹ plain (from_ints compared)
    ▹ jump (number is_zero)
    ▹ jump (number (λ x. flipped (is_zero x)))
    ▹ jump (number (λ x. int_lt x (pos 0)))
    ▹ jump (number (λ x. int_le (pos 0) x))
    ▹ jump (number (λ x. int_lt (pos 0) x))
    ▹ jump (number (λ x. int_le x (pos 0)))
    ▹ jump (a_null true)
    ▹ jump (a_null false)
    ▹ jump (same true)
    ▹ jump (same false)
    ▹ jump (numbers same_number)
    ▹ jump (numbers (λ x y. flipped (same_number x y)))
    ▹ jump (numbers int_lt)
    ▹ jump (numbers (λ x y. int_le y x))
    ▹ jump (numbers (λ x y. int_lt y x))
    ▹ jump (numbers int_le)
    ▹ jump goto
    ▹ forbidden
    ▹ forbidden
    ▹ table
    ▹ int_table
    ▹ lookup
    ▹ int_lookup
    ▹ return (Some Reference)
    ▹ return (Some Short)
    ▹ return (Some Int)
    ▹ return None
    ▹ uses
    ▹ uses
    ▹ uses
    ▹ uses
    ▹ uses
    ▹ uses
    ▹ uses
    ▹ uses
    ▹ uses
    ▹ uses
    ▹ uses
    ▹ uses
    ▹ uses
    ▹ uses
    ▹ uses
    ▹ uses
    ▹ uses
    ▹ uses
    ▹ uses
    ▹ invokeinterface
    ▹ uses
    ▹ newarray
    ▹ uses
    ▹ arraylength
    ▹ athrow
    ▹ checkcast
    ▹ instanceof
    ▹ plain (sinc Signed2)
    ▹ plain (iinc Signed2)
    ▹ jump (number is_zero)
    ▹ jump (number (λ x. flipped (is_zero x)))
    ▹ jump (number (λ x. int_lt x (pos 0)))
    ▹ jump (number (λ x. int_le (pos 0) x))
    ▹ jump (number (λ x. int_lt (pos 0) x))
    ▹ jump (number (λ x. int_le x (pos 0)))
    ▹ jump (a_null true)
    ▹ jump (a_null false)
    ▹ jump (same true)
    ▹ jump (same false)
    ▹ jump (numbers same_number)
    ▹ jump (numbers (λ x y. flipped (same_number x y)))
    ▹ jump (numbers int_lt)
    ▹ jump (numbers (λ x y. int_le y x))
    ▹ jump (numbers (λ x y. int_lt y x))
    ▹ jump (numbers int_le)
    ▹ jump goto
    ▹ uses
    ▹ uses
    ▹ uses
    ▹ uses
    ▹ uses
    ▹ uses
    ▹ uses
    ▹ uses
    ▹ uses
    ▹ uses
    ▹ uses
    ▹ uses
    ▹ uses
    ▹ uses
    ▹ uses
    ▹ uses
    ▹ tt

beside_from : (rs : List Row) (ms : List Meaning) (fs : List (Option Form)) → AllBeside rs ms fs → (k : ℕ)
    → Beside (known_row (slice_get rs k)) (known_meaning (slice_get ms k)) (option_and_then (λ f. f) (slice_get fs k))
beside_from [] [] fs h k = forbidden
beside_from [] (m ∷ ms) fs h k = absurd h
beside_from (r ∷ rs) [] fs h k = absurd h
beside_from (r ∷ rs) (m ∷ ms) [] h k = absurd h
beside_from (r ∷ rs) (m ∷ ms) (f ∷ fs) h zero = h.0
beside_from (r ∷ rs) (m ∷ ms) (f ∷ fs) h (suc k) = beside_from rs ms fs h.1 k

-- the row of an opcode stands beside its meaning and its form
pub beside : (opcode : ℕ) → Beside (row opcode) (meaning opcode) (form opcode)
unfolding row meaning form
beside opcode = beside_from rows meanings forms all_beside opcode
