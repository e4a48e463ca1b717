-- Operands of a decoded instruction are read as the form of its opcode says.
use Rattle.std.specs.Prelude.{◌≡◌, ℕ, ◌+◌, ◌*◌, Bool, true, false, List, [], ◌∷◌, Option, Some, None, pos}
use Rattle.std.specs.Prelude.{if◌then◌else◌}
use Rattle.std.proofs.Common.{refl, subst}
use Rattle.cjc_card_semantics.specs.CapRead.Opcodes.{Operand, Byte, Signed1, Signed2, Signed4, Index1, Index2, Form}
use Rattle.cjc_card_semantics.specs.CapRead.Opcodes.{form}
use Rattle.cjc_card_semantics.specs.CapRead.Decode.{Instruction, First, Front, operand, operands_of, put_first}
use Rattle.cjc_card_semantics.specs.CapRead.Decode.{first_and}
use Rattle.cjc_card_semantics.specs.CapRead.Decode.{before_table, in_table, is_whole, with_operands, with_table}
use Rattle.cjc_card_semantics.specs.CapRead.Decode.{decode, decode_as}
use Rattle.cjc_verify_proof.specs.Beside.{IsRead, AreRead}

read_one : (k : Operand) (bytes : List ℕ) (first : First) → operand k bytes ≡ Some first → IsRead k first.value
read_one Byte [] first e = cc
read_one Byte (a ∷ rest) first e = let same : record { value = pos a; rest = rest } ≡ first = cc
    in subst (λ (f : First). IsRead Byte f.value) same tt
read_one Index1 [] first e = cc
read_one Index1 (a ∷ rest) first e = let same : record { value = pos a; rest = rest } ≡ first = cc
    in subst (λ (f : First). IsRead Index1 f.value) same tt
read_one Index2 [] first e = cc
read_one Index2 (a ∷ []) first e = cc
read_one Index2 (a ∷ b ∷ rest) first e = let same : record { value = pos (256 * a + b); rest = rest } ≡ first = cc
    in subst (λ (f : First). IsRead Index2 f.value) same tt
read_one Signed1 bytes first e = tt
read_one Signed2 bytes first e = tt
read_one Signed4 bytes first e = tt

read_all : (kinds : List Operand) (bytes : List ℕ) (front : Front) → operands_of kinds bytes ≡ Some front
    → AreRead kinds front.values
read_all [] bytes front e = let same : record { values = []; rest = bytes } ≡ front = cc
    in subst (λ (f : Front). AreRead [] f.values) same tt
read_all (k ∷ kinds) bytes front e = go (read_all kinds) (operand k bytes) refl e
  where
    more : ((bs : List ℕ) (f : Front) → operands_of kinds bs ≡ Some f → AreRead kinds f.values) → (first : First)
        → operand k bytes ≡ Some first → (o : Option Front) → operands_of kinds first.rest ≡ o
        → put_first first.value o ≡ Some front → AreRead (k ∷ kinds) front.values
    more others first is None f e = cc
    more others first is (Some rest) f e =
        let same : record { values = first.value ∷ rest.values; rest = rest.rest } ≡ front = cc in
        subst (λ (g : Front). AreRead (k ∷ kinds) g.values) same (read_one k bytes first is, others first.rest rest f)

    go : ((bs : List ℕ) (f : Front) → operands_of kinds bs ≡ Some f → AreRead kinds f.values) → (o : Option First)
        → operand k bytes ≡ o → first_and o (operands_of kinds) ≡ Some front
        → AreRead (k ∷ kinds) front.values
    go others None is e = cc
    go others (Some first) is e = more others first is (operands_of kinds first.rest) refl e

-- the operands of an instruction, of a switch those before its table
pub operands_read : (opcode : ℕ) (bytes : List ℕ) (i : Instruction) (f : Form) → form opcode ≡ Some f
    → decode (opcode ∷ bytes) ≡ Some i → AreRead (before_table f) i.operands
operands_read opcode bytes i f is e = go (operands_of (before_table f) bytes) refl
    (subst (λ (o : Option Form). decode_as opcode o bytes ≡ Some i) is e)
  where
    whole : (front behind : Front) → AreRead (before_table f) front.values → (b : Bool) → (if b then Some (record {
      opcode = opcode;
      operands = front.values;
      table = behind.values;
    }) else None) ≡ Some i → AreRead (before_table f) i.operands
    whole front behind read true e =
        let same : record { opcode = opcode; operands = front.values; table = behind.values } ≡ i = cc in
        subst (λ (j : Instruction). AreRead (before_table f) j.operands) same read
    whole front behind read false e = cc

    tabled : (front : Front) → AreRead (before_table f) front.values → (o : Option Front)
        → with_table opcode f front.values o ≡ Some i → AreRead (before_table f) i.operands
    tabled front read None e = cc
    tabled front read (Some behind) e = whole front behind read (is_whole f front.values behind.values) e

    go : (o : Option Front) → operands_of (before_table f) bytes ≡ o → with_operands opcode f o ≡ Some i
        → AreRead (before_table f) i.operands
    go None is e = cc
    go (Some front) is e = tabled front (read_all (before_table f) bytes front is) (operands_of
        (in_table f front.values)
        front.rest) e
