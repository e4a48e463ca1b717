-- The operand of bspush and sspush has 16 bits.
use Rattle.std.proofs.Common.{◌≡◌, ℕ, suc, ◌+◌, ◌-◌, ◌*◌, ◌<◌, ◌≤◌, refl, sym, ap, ◌∙◌, subst, arith, List, [], ◌∷◌}
use Rattle.std.proofs.Common.{Bool, true, false, ℤ, pos, negsuc, ⊎_elim}
use Rattle.std.specs.Prelude.{◌⊎◌, Option, Some, None, FitsSigned, nat_lt, if◌then◌else◌}
use Rattle.std.specs.Int.{w16}
use Rattle.std.proofs.lemmas.Int.{ints}
use Rattle.std.proofs.lemmas.Bool.Decides.{nat_tests}
use Rattle.cjc_card_semantics.specs.CapRead.Opcodes.{Form, Fields, Signed1, Signed2, form, forms}
use Rattle.cjc_card_semantics.specs.CapRead.Decode.{Instruction, Front, signed, operands_of, before_table, in_table}
use Rattle.cjc_card_semantics.specs.CapRead.Decode.{is_whole}
use Rattle.cjc_card_semantics.specs.CapRead.Decode.{with_table, with_operands, decode, decode_as}
use Rattle.cjc_card_frame.specs.declared.opcodes.kinds.Calculation.{Calculation}
use Rattle.cjc_card_frame.specs.declared.opcodes.kinds.Calculation.TheVariants.{Literal}
use Rattle.cjc_card_frame.specs.declared.opcodes.kinds.Meaning.TheVariants.{Plain}
use Rattle.cjc_card_frame.specs.Meanings.{is_literal}
use Rattle.cjc_card_frame.specs.Frame.Frames.{AreOperands}
use Rattle.cjc_card_frame.specs.Kinds.{IsDecoded}

-- one that is below a half, and one that is not
signed_fits : (half n : ℕ) → half ≤ 32768 → FitsSigned w16 (signed half n)
signed_fits half n h = by (nat_lt n half) refl
  where
    by : (t : Bool) → nat_lt n half ≡ t → FitsSigned w16 (if t then pos n else negsuc (half + half - 1 - n))
    by true e = let below : n < half = grind (arith, nat_tests) in record { sfits = omega (arith, ints) }
    by false e = let above : half ≤ n = grind (arith, nat_tests) in record { sfits = omega (arith, ints) }

-- what an instruction is made of
table_is : (op : ℕ) (f : Form) (operands : List ℤ) (o : Option Front) (i : Instruction) → with_table op f operands o
    ≡ Some i → (i.opcode ≡ op) × (i.operands ≡ operands)
table_is op f operands None i e = absurd cc
table_is op f operands (Some front) i e = by (is_whole f operands front.values) e
  where
    by : (t : Bool) → (if t then Some (record { opcode = op; operands = operands; table = front.values }) else None)
        ≡ Some i → (i.opcode ≡ op) × (i.operands ≡ operands)
    by true h = (sym (ap opcode_of h), sym (ap operands_in h))
      where
        opcode_of : Option Instruction → ℕ
        opcode_of None = op
        opcode_of (Some j) = j.opcode

        operands_in : Option Instruction → List ℤ
        operands_in None = operands
        operands_in (Some j) = j.operands
    by false h = absurd cc

one_byte : (bytes : List ℕ) (op : ℕ) (i : Instruction) (z : ℤ)
    → with_operands op (Fields (Signed1 ∷ [])) (operands_of (Signed1 ∷ []) bytes) ≡ Some i → i.operands ≡ z ∷ []
    → FitsSigned w16 z
one_byte [] op i z e h = absurd cc
one_byte (a ∷ bytes) op i z e h =
    let t = table_is op (Fields (Signed1 ∷ [])) (signed 128 a ∷ []) (Some (record { values = []; rest = bytes })) i e in
    let same : signed 128 a ≡ z = cc (t.1, h) in
    subst (FitsSigned w16) same (signed_fits 128 a (omega arith))

two_bytes : (bytes : List ℕ) (op : ℕ) (i : Instruction) (z : ℤ)
    → with_operands op (Fields (Signed2 ∷ [])) (operands_of (Signed2 ∷ []) bytes) ≡ Some i → i.operands ≡ z ∷ []
    → FitsSigned w16 z
two_bytes [] op i z e h = absurd cc
two_bytes (a ∷ []) op i z e h = absurd cc
two_bytes (a ∷ b ∷ bytes) op i z e h =
    let t = table_is op (Fields (Signed2 ∷ [])) (signed 32768 (256 * a + b) ∷ []) (Some (record {
      values = [];
      rest = bytes;
    })) i e in
    let same : signed 32768 (256 * a + b) ≡ z = cc (t.1, h) in
    subst (FitsSigned w16) same (signed_fits 32768 (256 * a + b) (omega arith))

-- an instruction has the opcode that stands first
opcode_first : (op : ℕ) (f : Option Form) (bytes : List ℕ) (i : Instruction) → decode_as op f bytes ≡ Some i
    → i.opcode ≡ op
opcode_first op None bytes i e = absurd cc
opcode_first op (Some f) bytes i e = by (operands_of (before_table f) bytes) e
  where
    by : (o : Option Front) → with_operands op f o ≡ Some i → i.opcode ≡ op
    by None h = absurd cc
    by (Some front) h = (table_is op f front.values (operands_of (in_table f front.values) front.rest) i h).0

form_10 : form 16 ≡ Some (Fields (Signed1 ∷ []))
unfolding form forms
form_10 = refl

form_11 : form 17 ≡ Some (Fields (Signed2 ∷ []))
unfolding form forms
form_11 = refl

-- the operand of a literal
literal_fits : (i : Instruction) (bytes : List ℕ) (z : ℤ) → decode bytes ≡ Some i → (i.opcode ≡ 16) ⊎ (i.opcode ≡ 17)
    → i.operands ≡ z ∷ [] → FitsSigned w16 z
literal_fits i [] z e is h = absurd cc
literal_fits i (op ∷ bytes) z e is h =
    let first : i.opcode ≡ op = opcode_first op (form op) bytes i e in
    ⊎_elim
    (λ s. let f : form op ≡ Some (Fields (Signed1 ∷ [])) = ap form (sym first ∙ s) ∙ form_10
    in one_byte bytes op i z (ap (λ g. decode_as op g bytes) (sym f) ∙ e) h)
    (λ s. let f : form op ≡ Some (Fields (Signed2 ∷ [])) = ap form (sym first ∙ s) ∙ form_11
    in two_bytes bytes op i z (ap (λ g. decode_as op g bytes) (sym f) ∙ e) h)
    is

-- operands of a calculation are some that bytes give it
pub are_operands : (calculation : Calculation) (i : Instruction) → IsDecoded i → (is_literal (Plain calculation) ≡ true
    → (i.opcode ≡ 16) ⊎ (i.opcode ≡ 17)) → AreOperands calculation i.operands
are_operands Literal i d is = by i.operands refl
  where
    by : (xs : List ℤ) → i.operands ≡ xs → AreOperands Literal xs
    by [] e = tt
    by (z ∷ []) e = literal_fits i d.0 z d.1 (is refl) e
    by (z ∷ w ∷ xs) e = tt
are_operands calculation i d is = tt
