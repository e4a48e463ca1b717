-- The index of an instruction, by its shape.
use Rattle.std.proofs.Common.{◌≡◌, ℕ, ◌+◌, ◌≤◌, true, false, List, [], ◌∷◌, refl, sym, ap, ◌∙◌, subst, arith, Option}
use Rattle.std.proofs.Common.{Some, None, ℤ, pos, negsuc}
use Rattle.std.specs.Prelude.{option_map, if◌then◌else◌}
use Rattle.cjc_capread.specs.Opcodes.{Form, Fields, Table, Lookup, form, info}
use Rattle.cjc_capread.specs.Decode.{Instruction, size, size_by}
use Rattle.cjc_check.specs.declared.codes.code.At.{At}
use Rattle.cjc_check.specs.Codes.Bodies.{placed_of}
use Rattle.cjc_capread.specs.Decoder.Shapes.{form_of}
use Rattle.cjc_capread.specs.Decoder.Decoded.{instruction_of, values}
use Rattle.cjc_capread.specs.declared.decoder.shape.Shape.{Shape}
use Rattle.cjc_capread.specs.declared.decoder.shape.Shape.TheVariants as shapes
use Rattle.cjc_check_rules.specs.Instructions.{IndexOperand, index_among, index_by, index_in as found_in, indices}
use Rattle.cjc_check_rules.specs.Instructions.{names_no_class}
use Rattle.cjc_check.specs.Jumps.Offsets.{index_in, index_operand, index_place_in, index_size_in, natural, optional}

pub index_is : (s : Shape) (vs : List ℤ) → natural (index_operand s vs) ≡ index_in (form_of s) vs
index_is shapes.NoOp vs = refl
index_is shapes.Bare vs = refl
index_is shapes.ShortTable vs = refl
index_is shapes.IntTable vs = refl
index_is shapes.ShortPairs vs = refl
index_is shapes.IntPairs vs = refl
index_is shapes.Byte [] = refl
index_is shapes.Byte (v ∷ vs) = refl
index_is shapes.Signed1 [] = refl
index_is shapes.Signed1 (v ∷ vs) = refl
index_is shapes.Signed2 [] = refl
index_is shapes.Signed2 (v ∷ vs) = refl
index_is shapes.Signed4 [] = refl
index_is shapes.Signed4 (v ∷ vs) = refl
index_is shapes.Increment1 [] = refl
index_is shapes.Increment1 (v ∷ []) = refl
index_is shapes.Increment1 (v ∷ w ∷ vs) = refl
index_is shapes.Increment2 [] = refl
index_is shapes.Increment2 (v ∷ []) = refl
index_is shapes.Increment2 (v ∷ w ∷ vs) = refl
index_is shapes.Index1 [] = refl
index_is shapes.Index1 (pos n ∷ vs) = refl
index_is shapes.Index1 (negsuc n ∷ vs) = refl
index_is shapes.Index2 [] = refl
index_is shapes.Index2 (pos n ∷ vs) = refl
index_is shapes.Index2 (negsuc n ∷ vs) = refl
index_is shapes.Typed [] = refl
index_is shapes.Typed (v ∷ []) = refl
index_is shapes.Typed (v ∷ pos n ∷ vs) = refl
index_is shapes.Typed (v ∷ negsuc n ∷ vs) = refl
index_is shapes.Call [] = refl
index_is shapes.Call (v ∷ []) = refl
index_is shapes.Call (v ∷ pos n ∷ vs) = refl
index_is shapes.Call (v ∷ negsuc n ∷ []) = refl
index_is shapes.Call (v ∷ negsuc n ∷ w ∷ vs) = refl

place_by : (s : Shape) (i : Instruction) → index_place_in (form_of s) ≤ size_by (form_of s) i
place_by shapes.NoOp i = omega arith
place_by shapes.Bare i = omega arith
place_by shapes.Byte i = omega arith
place_by shapes.Signed1 i = omega arith
place_by shapes.Signed2 i = omega arith
place_by shapes.Signed4 i = omega arith
place_by shapes.Increment1 i = omega arith
place_by shapes.Increment2 i = omega arith
place_by shapes.Index1 i = omega arith
place_by shapes.Index2 i = omega arith
place_by shapes.Typed i = omega arith
place_by shapes.Call i = omega arith
place_by shapes.ShortTable i = omega arith
place_by shapes.IntTable i = omega arith
place_by shapes.ShortPairs i = omega arith
place_by shapes.IntPairs i = omega arith

pub place_within : (s : Shape) (i : Instruction) → form_of s ≡ form i.opcode → index_place_in (form_of s) ≤ size i
place_within s i e = subst (λ (o : Option Form). index_place_in (form_of s) ≤ size_by o i) e (place_by s i)

-- an index with its place
abbrev pub made : At → Option Form → ℕ → IndexOperand
made a o n = record { opcode = a.insn.opcode; at = a.at + index_place_in o; size = index_size_in o; index = n }

in_fields : (a : At) (f : Form) (o : Option ℕ) → optional (option_map (made a (Some f)) o) ≡ found_in (placed_of a)
    (info f) o
in_fields a f None = refl
in_fields a f (Some n) = refl

by_form : (a : At) (o : Option Form) → optional (option_map (made a o) (index_in o (values a.insn.operands)))
    ≡ index_by (placed_of a) o
by_form a None = refl
by_form a (Some (Fields kinds)) = in_fields a (Fields kinds) (index_among kinds (values a.insn.operands))
by_form a (Some (Table m)) = refl
by_form a (Some (Lookup m)) = refl

pub index_there : (a : At) (o : Option Form) (found : Option ℕ) → o ≡ form a.insn.opcode
    → found ≡ index_in o (values a.insn.operands) → names_no_class (instruction_of a.insn) ≡ false
    → optional (option_map (made a o) found) ≡ indices (placed_of a)
index_there a o found e f names =
    ap (λ (n : Option ℕ). optional (option_map (made a o) n)) f ∙ by_form a o ∙ ap (index_by (placed_of a)) e
    ∙ sym (ap (λ b. if b then [] else index_by (placed_of a) (form a.insn.opcode)) names)

pub no_index : (a : At) → names_no_class (instruction_of a.insn) ≡ true → [] ≡ indices (placed_of a)
no_index a names = sym (ap (λ b. if b then [] else index_by (placed_of a) (form a.insn.opcode)) names)
