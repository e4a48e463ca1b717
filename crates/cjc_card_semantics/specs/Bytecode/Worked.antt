-- Opcodes applied to operands, locals and a stack, and which operands a meaning takes.
use Rattle.std.specs.Prelude.{ℕ, List, [], ◌∷◌, Option, Some, None, Bool, true, false, ◌&&◌, ◌==◌, ◌||◌, ℤ}
use Rattle.cjc_script.specs.declared.value.Value.{Value}
use Rattle.cjc_capread.specs.Opcodes.{Operand, Byte, Signed1, Signed2, Signed4, Index1, Index2, Form, Fields, Table}
use Rattle.cjc_capread.specs.Opcodes.{Lookup, form}
use Rattle.cjc_card_semantics.specs.Bytecode.Calculations.{Result, Wrong}
use Rattle.cjc_card_semantics.specs.Bytecode.Meanings.{Meaning, Plain, Branches, Ranged, Paired, Touches, Uses}
use Rattle.cjc_card_semantics.specs.Bytecode.Meanings.{CallsInterface, MakesNumbers, Casts, Asks, Nothing, meaning}

-- what a meaning that is a calculation makes of a frame
abbrev pub calculated_by : Meaning → (operands : List ℤ) (room : ℕ) (locals : List (Option Value)) (stack : List Value)
    → Result
calculated_by (Plain calculation) operands room locals stack = calculation operands room locals stack
calculated_by m operands room locals stack = Wrong

-- what an opcode that is a calculation makes of a frame
abbrev pub calculated : (op : ℕ) (operands : List ℤ) (room : ℕ) (locals : List (Option Value)) (stack : List Value)
    → Result
calculated op operands room locals stack = calculated_by (meaning op) operands room locals stack

-- no operand is an index into the constant pool
abbrev pub has_no_index : List Operand → Bool
has_no_index [] = true
has_no_index (Index1 ∷ operands) = false
has_no_index (Index2 ∷ operands) = false
has_no_index (x ∷ operands) = has_no_index operands

-- the matches of a switch are words, or ints
abbrev pub are_matches : (is_int : Bool) → Operand → Bool
are_matches false Signed2 = true
are_matches true Signed4 = true
are_matches is_int x = false

-- the operands of a form are those that a meaning is told of
abbrev pub takes : Meaning → Form → Bool
takes (Plain calculation) (Fields operands) = has_no_index operands
takes (Branches test) (Fields (Signed1 ∷ [])) = true
takes (Branches test) (Fields (Signed2 ∷ [])) = true
takes (Ranged is_int) (Table matches) = are_matches is_int matches
takes (Paired is_int) (Lookup matches) = are_matches is_int matches
takes (Touches access) (Fields []) = true
takes (Uses how) (Fields (Index1 ∷ [])) = true
takes (Uses how) (Fields (Index2 ∷ [])) = true
takes CallsInterface (Fields (Byte ∷ Index2 ∷ Byte ∷ [])) = true
takes MakesNumbers (Fields (Byte ∷ [])) = true
takes Casts (Fields (Byte ∷ Index2 ∷ [])) = true
takes Asks (Fields (Byte ∷ Index2 ∷ [])) = true
takes Nothing f = true
takes m f = false

-- no row of the machine
abbrev pub is_nothing : Meaning → Bool
is_nothing Nothing = true
is_nothing m = false

-- jsr, ret, impdep1 and impdep2
abbrev pub is_left_out : ℕ → Bool
is_left_out op = ((op == 0x71) || (op == 0x72)) || ((op == 0xFE) || (op == 0xFF))

-- two truths are the same
abbrev pub same_truth : Bool → Bool → Bool
same_truth true b = b
same_truth false true = false
same_truth false false = true

-- by the opcode's form and meaning
abbrev pub is_told_as : (op : ℕ) → Option Form → Meaning → Bool
is_told_as op None m = is_nothing m
is_told_as op (Some f) m = takes m f && same_truth (is_nothing m) (is_left_out op)

-- An opcode with a form has a meaning that takes its operands, unless it is one of the four that are left out; no other
-- byte has one.
abbrev pub is_told : ℕ → Bool
is_told op = is_told_as op (form op) (meaning op)
