-- An instruction is decoded whatever stands behind it.
use Rattle.std.proofs.Common.{◌≡◌, ℕ, ◌+◌, refl, ap, subst, ◌∙◌, arith, Bool, true, false, List, [], ◌∷◌, ◌++◌}
use Rattle.std.proofs.Common.{length, Option, Some, None}
use Rattle.std.specs.Prelude.{if◌then◌else◌}
use Rattle.cjc_check_rules.specs.CapRead.Opcodes.{Operand, Byte, Signed1, Signed2, Signed4, Index1, Index2, Form}
use Rattle.cjc_check_rules.specs.CapRead.Opcodes.{width}
use Rattle.cjc_check_rules.specs.CapRead.Opcodes.{widths}
use Rattle.cjc_check_rules.specs.CapRead.Opcodes.{form}
use Rattle.cjc_check_rules.specs.CapRead.Decode.{Instruction, First, Front, operand, operands_of, put_first}
use Rattle.cjc_check_rules.specs.CapRead.Decode.{first_and}
use Rattle.cjc_check_rules.specs.CapRead.Decode.{before_table, in_table, is_whole, with_table, with_operands}
use Rattle.cjc_check_rules.specs.CapRead.Decode.{decode_as}
use Rattle.cjc_check_rules.specs.CapRead.Decode.{decode}
use Rattle.cjc_check_rules.specs.CapRead.Decode.{size, size_as, size_by}
use Rattle.cjc_check_rules.proofs.BytesPlain.{same_some}

-- what is read of more bytes, with so many of them read
abbrev ReadsMore : Operand → (xs ys : List ℕ) → First → Type 0
ReadsMore kind xs ys f = (operand kind (xs ++ ys) ≡ Some (record { value = f.value; rest = f.rest ++ ys }))
    × (length xs ≡ width kind + length f.rest)

operand_more : (kind : Operand) (xs ys : List ℕ) (f : First) → operand kind xs ≡ Some f → ReadsMore kind xs ys f
operand_more Byte [] ys f e = cc
operand_more Byte (a ∷ xs) ys f e = subst (ReadsMore Byte (a ∷ xs) ys) (same_some e) (refl, omega arith)
operand_more Signed1 [] ys f e = cc
operand_more Signed1 (a ∷ xs) ys f e = subst (ReadsMore Signed1 (a ∷ xs) ys) (same_some e) (refl, omega arith)
operand_more Signed2 [] ys f e = cc
operand_more Signed2 (a ∷ []) ys f e = cc
operand_more Signed2 (a ∷ b ∷ xs) ys f e = subst (ReadsMore Signed2 (a ∷ b ∷ xs) ys) (same_some e) (refl, omega arith)
operand_more Signed4 [] ys f e = cc
operand_more Signed4 (a ∷ []) ys f e = cc
operand_more Signed4 (a ∷ b ∷ []) ys f e = cc
operand_more Signed4 (a ∷ b ∷ c ∷ []) ys f e = cc
operand_more Signed4 (a ∷ b ∷ c ∷ d ∷ xs) ys f e = subst (ReadsMore Signed4 (a ∷ b ∷ c ∷ d ∷ xs) ys) (same_some e) (
  refl,
  omega arith,
)
operand_more Index1 [] ys f e = cc
operand_more Index1 (a ∷ xs) ys f e = subst (ReadsMore Index1 (a ∷ xs) ys) (same_some e) (refl, omega arith)
operand_more Index2 [] ys f e = cc
operand_more Index2 (a ∷ []) ys f e = cc
operand_more Index2 (a ∷ b ∷ xs) ys f e = subst (ReadsMore Index2 (a ∷ b ∷ xs) ys) (same_some e) (refl, omega arith)

-- the same of operands in a row
abbrev ReadMore : List Operand → (xs ys : List ℕ) → Front → Type 0
ReadMore kinds xs ys f = (operands_of kinds (xs ++ ys) ≡ Some (record { values = f.values; rest = f.rest ++ ys }))
    × (length xs ≡ widths kinds + length f.rest)

operands_more : (kinds : List Operand) (xs ys : List ℕ) (f : Front) → operands_of kinds xs ≡ Some f
    → ReadMore kinds xs ys f
operands_more [] xs ys f e = subst (ReadMore [] xs ys) (same_some e) (refl, omega arith)
operands_more (kind ∷ kinds) xs ys f e = by (operand kind xs) refl e (operands_more kinds)
  where
    onwards : (first : First) → operand kind xs ≡ Some first → (o : Option Front) → operands_of kinds first.rest ≡ o
        → put_first first.value o ≡ Some f → ((zs ws : List ℕ) (g : Front) → operands_of kinds zs ≡ Some g
        → ReadMore kinds zs ws g) → ReadMore (kind ∷ kinds) xs ys f
    onwards first is None g h more = cc
    onwards first is (Some front) g h more =
        let one = operand_more kind xs ys first is in
        let rest = more first.rest ys front g in
        let a = one.1 in
        let b = rest.1 in
        subst (ReadMore (kind ∷ kinds) xs ys) (same_some h) (
          ap (λ o. first_and o (operands_of kinds)) one.0 ∙ ap (put_first first.value) rest.0,
          omega (arith, a, b),
        )

    by : (o : Option First) → operand kind xs ≡ o → first_and o (operands_of kinds) ≡ Some f
        → ((zs ws : List ℕ) (g : Front) → operands_of kinds zs ≡ Some g → ReadMore kinds zs ws g)
        → ReadMore (kind ∷ kinds) xs ys f
    by None is h more = cc
    by (Some first) is h more = onwards first is (operands_of kinds first.rest) refl h more

-- the same of an instruction
abbrev pub DecodesMore : (xs ys : List ℕ) → Instruction → Type 0
DecodesMore xs ys i = (decode (xs ++ ys) ≡ Some i) × (rest : List ℕ) × (length xs ≡ size i + length rest)

pub decode_more : (xs ys : List ℕ) (i : Instruction) → decode xs ≡ Some i → DecodesMore xs ys i
decode_more [] ys i e = cc
decode_more (op ∷ xs) ys i e = by_form (form op) refl e
  where
    -- by what stands before the table, by the table, by whether it is whole
    whole : (f : Form) → form op ≡ Some f → (front : Front) → operands_of (before_table f) xs ≡ Some front
        → (table : Front) → operands_of (in_table f front.values) front.rest ≡ Some table → (t : Bool)
        → is_whole f front.values table.values ≡ t
        → (if t then Some (record { opcode = op; operands = front.values; table = table.values }) else None) ≡ Some i
        → DecodesMore (op ∷ xs) ys i
    whole f is front g table h false t e = cc
    whole f is front g table h true t e =
        let one = operands_more (before_table f) xs ys front g in
        let two = operands_more (in_table f front.values) front.rest ys table h in
        let a = one.1 in
        let b = two.1 in
        let j : Instruction = record { opcode = op; operands = front.values; table = table.values } in
        let n : size j ≡ size_as f j = ap (λ o. size_by o j) is in
        subst (DecodesMore (op ∷ xs) ys) (same_some e) (
          ap (λ o. decode_as op o (xs ++ ys)) is ∙ ap (with_operands op f) one.0 ∙ ap (with_table op f front.values)
              two.0 ∙ ap (λ t. if t then Some (record {
                opcode = op;
                operands = front.values;
                table = table.values;
              }) else None) t,
          table.rest,
          omega (arith, a, b, n),
        )

    by_table : (f : Form) → form op ≡ Some f → (front : Front) → operands_of (before_table f) xs ≡ Some front
        → (o : Option Front) → operands_of (in_table f front.values) front.rest ≡ o
        → with_table op f front.values o ≡ Some i → DecodesMore (op ∷ xs) ys i
    by_table f is front g None h e = cc
    by_table f is front g (Some table) h e = whole f is front g table h (is_whole f front.values table.values) refl e

    by_operands : (f : Form) → form op ≡ Some f → (o : Option Front) → operands_of (before_table f) xs ≡ o
        → with_operands op f o ≡ Some i → DecodesMore (op ∷ xs) ys i
    by_operands f is None g e = cc
    by_operands f is (Some front) g e = by_table f is front g (operands_of (in_table f front.values) front.rest) refl e

    by_form : (o : Option Form) → form op ≡ o → decode_as op o xs ≡ Some i → DecodesMore (op ∷ xs) ys i
    by_form None is e = cc
    by_form (Some f) is e = by_operands f is (operands_of (before_table f) xs) refl e
