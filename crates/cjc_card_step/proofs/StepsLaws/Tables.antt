-- What the entries of a switch's table are, by its meaning.
use Rattle.std.proofs.Common.{◌≡◌, ℕ, ◌<◌, refl, sym, ap, ◌∙◌, List, Bool, true, false}
use Rattle.std.specs.Prelude.{Option, Some, None}
use Rattle.cjc_card_semantics.specs.CapRead.Opcodes.{Operand, Signed2, Signed4, Form, Fields, Table, Lookup, form}
use Rattle.cjc_card_semantics.specs.Bytecode.Meanings.{Meaning, Ranged, Paired, meaning}
use Rattle.cjc_card_semantics.specs.Bytecode.Worked.{is_told, is_told_as, takes, are_matches}
use Rattle.cjc_card_semantics.proofs.BytecodeLaws.Told.{told}
use Rattle.cjc_card_semantics.specs.CapRead.declared.decoder.insn.Insn.{Insn}
use Rattle.cjc_card_semantics.specs.CapRead.declared.decoder.shape.Shape.{Shape}
use Rattle.cjc_card_semantics.specs.CapRead.declared.decoder.shape.Shape.TheVariants as shapes
use Rattle.cjc_card_semantics.specs.CapRead.declared.decoder.table.Matches.{Matches}
use Rattle.cjc_card_semantics.specs.CapRead.declared.decoder.table.Matches.TheVariants.{Counted, Short, Int}
use Rattle.cjc_card_semantics.specs.CapRead.Decoder.Decoded.{IsAtFront}
use Rattle.cjc_card_semantics.specs.CapRead.Decoder.Shapes.{form_of, matches_in, matches_of}
use Rattle.cjc_card_semantics.proofs.BytesBools.{both_front}

-- the form of a switch over numbers
ranged_form : (op : ℕ) (f : Option Form) (is_int : Bool) → is_told_as op f (Ranged is_int) ≡ true → (m : Operand)
    × (f ≡ Some (Table m))
ranged_form op None is_int e = absurd cc
ranged_form op (Some (Fields xs)) is_int e = absurd cc
ranged_form op (Some (Table m)) is_int e = (m, refl)
ranged_form op (Some (Lookup m)) is_int e = absurd cc

-- the form of a switch over matches
paired_form : (op : ℕ) (f : Option Form) (is_int : Bool) → is_told_as op f (Paired is_int) ≡ true → (m : Operand)
    × (f ≡ Some (Lookup m)) × (are_matches is_int m ≡ true)
paired_form op None is_int e = absurd cc
paired_form op (Some (Fields xs)) is_int e = absurd cc
paired_form op (Some (Table m)) is_int e = absurd cc
paired_form op (Some (Lookup m)) is_int e = (m, refl, both_front (are_matches is_int m) _ e)

-- entries without matches
counted_in : (s : Shape) (m : Operand) → form_of s ≡ Some (Table m) → matches_in s ≡ Counted
counted_in shapes.ShortTable m e = refl
counted_in shapes.IntTable m e = refl
counted_in shapes.ShortPairs m e = absurd cc
counted_in shapes.IntPairs m e = absurd cc
counted_in s m e = refl

-- entries with matches
paired_in : (s : Shape) (m : Operand) (is_int : Bool) → form_of s ≡ Some (Lookup m) → are_matches is_int m ≡ true
    → matches_in s ≡ matches_of is_int
paired_in shapes.ShortPairs m false e h = refl
paired_in shapes.ShortPairs m true e h = absurd (wrong m e h)
  where
    wrong : (m : Operand) → Some (Lookup Signed2) ≡ Some (Lookup m) → are_matches true m ≡ true → ⊥
    wrong Signed2 e h = absurd cc
    wrong m e h = absurd cc
paired_in shapes.IntPairs m true e h = refl
paired_in shapes.IntPairs m false e h = absurd (wrong m e h)
  where
    wrong : (m : Operand) → Some (Lookup Signed4) ≡ Some (Lookup m) → are_matches false m ≡ true → ⊥
    wrong Signed4 e h = absurd cc
    wrong m e h = absurd cc
paired_in s m is_int e h = absurd cc

module _ (i : Insn) (bytes : List ℕ) (front : IsAtFront i bytes) (byte : i.opcode < 256) (is_int : Bool) where
  -- a switch over numbers has no matches
  pub are_counted : Ranged is_int ≡ meaning i.opcode → i.table.matches ≡ Counted
  are_counted e =
      let told_so : is_told_as i.opcode (form i.opcode) (Ranged is_int) ≡ true =
      ap (λ m. is_told_as i.opcode (form i.opcode) m) e ∙ told i.opcode byte in
      let f = ranged_form i.opcode (form i.opcode) is_int told_so in
      front.matches ∙ counted_in i.shape f.0 (front.shape ∙ f.1)

  -- a switch over matches has them
  pub are_paired : Paired is_int ≡ meaning i.opcode → i.table.matches ≡ matches_of is_int
  are_paired e =
      let told_so : is_told_as i.opcode (form i.opcode) (Paired is_int) ≡ true =
      ap (λ m. is_told_as i.opcode (form i.opcode) m) e ∙ told i.opcode byte in
      let f = paired_form i.opcode (form i.opcode) is_int told_so in
      front.matches ∙ paired_in i.shape f.0 is_int (front.shape ∙ f.1) f.2
