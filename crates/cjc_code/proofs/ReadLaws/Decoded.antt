-- Each instruction that a method was decoded to is one of its kind.
use Rattle.std.proofs.Common.{◌≡◌, ◌+◌, ℕ, zero, suc, Bool, true, false, List, [], ◌∷◌, ◌++◌, Some, None, length}
use Rattle.std.proofs.Common.{slice_get, option_map, refl, sym, ap, subst, ◌∙◌, inl, inr, ⊎_elim}
use Rattle.std.specs.Prelude.{◌⊎◌}
use Rattle.std.specs.List.{Contains}
use Rattle.std.proofs.lemmas.Option.{same_Some, slice_get-map, slice_get_within}
use Rattle.std.proofs.lemmas.Option.{get_or_from_slice_get}
use Rattle.cjc_bytes.specs.Format.{Spells, repeated}
use Rattle.cjc_bytes.proofs.Inverse.{InBytes}
use Rattle.cjc_classfile.specs.Code.{CodeTree}
use Rattle.cjc_classfile.specs.declared.tree.ClassTree.{ClassTree}
use Rattle.cjc_classfile.specs.declared.tree.MethodTree.{MethodTree}
use Rattle.cjc_code.specs.Cut.{IsCutFrom, cut}
use Rattle.cjc_code.specs.Instruction.{behind_first, behind_opcode, instruction, is_prefix, is_unknown, opcode_at}
use Rattle.cjc_code.specs.Instruction.{operand, operands, unless, wide_opcode_at, widened}
use Rattle.cjc_code.specs.Named.{op_of}
use Rattle.cjc_code.specs.Rules.{IsDecoded, with_names, wrong_type, wrong_values}
use Rattle.cjc_code.specs.Table.{heads, row, tails, wide}
use Rattle.cjc_code.specs.Unfit.{has_wrong_type, has_wrong_values}
use Rattle.cjc_code.specs.declared.table.Operand.TheVariants.{Signed4}
use Rattle.cjc_code.specs.declared.insn.JInsn.{JInsn}
use Rattle.cjc_code.proofs.OneCut.{is_cut}
use Rattle.cjc_code.specs.ReadLaws.Instructions.{IsInstruction, NumbersFit, SwitchFits, has_opcode}
use Rattle.cjc_code.specs.ReadLaws.Members.{AreWords}
use Rattle.cjc_code.proofs.ReadLaws.Numbers.{Begins, number_fits}
use Rattle.cjc_code.proofs.ReadLaws.Opcodes.{opcode_fits}
use Rattle.cjc_code.proofs.ReadLaws.Switches.{IsWide, switch_fits}
use Rattle.cjc_code.proofs.ReadLaws.Wide.{wide_fits}

front_bytes : (xs ys : List ℕ) → InBytes (xs ++ ys) → InBytes xs
front_bytes [] ys h = tt
front_bytes (x ∷ xs) ys h = (h.0, front_bytes xs ys h.1)

back_bytes : (xs ys : List ℕ) → InBytes (xs ++ ys) → InBytes ys
back_bytes [] ys h = h
back_bytes (x ∷ xs) ys h = back_bytes xs ys h.1

opcode_row : (n : ℕ) (op : _) → opcode_at n ≡ Some op → (op.family ≡ (row n).1) × (op.number ≡ n)
    × (op.operands ≡ (row n).0)
unfolding opcode_at
opcode_row n op e = elim (is_unknown (row n).1) as (λ b. unless b (record {
  number = n;
  operands = (row n).0;
  family = (row n).1;
}) ≡ Some op → (op.family ≡ (row n).1) × (op.number ≡ n) × (op.operands ≡ (row n).0)) [
  | true ↦ λ f. absurd cc
  | false ↦ λ f. (
    sym (ap (λ o. o.family) (same_Some _ op f)),
    sym (ap (λ o. o.number) (same_Some _ op f)),
    sym (ap (λ o. o.operands) (same_Some _ op f)),
  )
] e

wide_row : (n : ℕ) (op : _) → wide_opcode_at n ≡ Some op → (op.family ≡ (row n).1) × (op.number ≡ n) × IsWide n
unfolding wide_opcode_at
wide_row n op e = elim (wide (row n)) as (λ o. wide (row n) ≡ o → widened n (row n).1 o ≡ Some op
    → (op.family ≡ (row n).1) × (op.number ≡ n) × IsWide n) [
      | None ↦ λ w f. absurd cc
      | Some x ↦ λ w f. (
        sym (ap (λ o. o.family) (same_Some _ op f)),
        sym (ap (λ o. o.number) (same_Some _ op f)),
        (x, w),
      )
    ] refl e

plain_spelt : (at n : ℕ) (op : _) (place : ℕ) (i : _) (bytes : List ℕ) → InBytes bytes
    → Spells (behind_opcode at op) place i bytes → op.family ≡ (row n).1 → op.number ≡ n → op.operands ≡ (row n).0
    → (i.family ≡ (row i.opcode).1) × (Begins i.opcode i.numbers ⊎ IsWide i.opcode)
unfolding behind_opcode Spells
plain_spelt at n op place i bytes ok (
  p,
  f1,
  b1,
  e1,
  here,
  (
    free,
    f2,
    b2,
    e2,
    raw,
    (
      first,
      f3,
      b3,
      e3,
      ops,
      (rest, f4, b4, e4, rep, (nil, same)),
    ),
  ),
) kind number heads_are =
    let opcode : i.opcode ≡ n = sym (ap (λ r. r.opcode) same) ∙ number in
    let ok1 = back_bytes f1 b1 (subst InBytes e1 ok) in
    let ok2 = back_bytes f2 b2 (subst InBytes e2 ok1) in
    let ok3 = front_bytes f3 b3 (subst InBytes e3 ok2) in
    let ok4 = front_bytes f4 b4 (subst InBytes e4 (back_bytes f3 b3 (subst InBytes e3 ok2))) in (
      sym (ap (λ r. r.family) same) ∙ kind ∙ ap (λ m. (row m).1) (sym opcode),
      inl (record {
        place = place + length f1 + length f2;
        first = first;
        rest = rest;
        bytes = f3;
        ok = ok3;
        spells = subst (λ os. Spells (operands (heads os)) (place + length f1 + length f2) first f3) (heads_are
            ∙ ap (λ m. (row m).0) (sym opcode)) ops;
        is = sym (ap (λ r. r.numbers) same);
        rest_place = place + length f1 + length f2 + length f3;
        rest_bytes = f4;
        rest_ok = ok4;
        rest_spells = subst (λ os. Spells (repeated (tails os first) (operand Signed4)) (place + length f1 + length f2
            + length f3) rest f4) (heads_are ∙ ap (λ m. (row m).0) (sym opcode)) rep;
      }),
    )

wide_spelt : (at n : ℕ) (op : _) (place : ℕ) (i : _) (bytes : List ℕ) → Spells (behind_opcode at op) place i bytes
    → op.family ≡ (row n).1 → op.number ≡ n → IsWide n → (i.family ≡ (row i.opcode).1) × (Begins i.opcode i.numbers
    ⊎ IsWide i.opcode)
unfolding behind_opcode Spells
wide_spelt at n op place i bytes (
  p,
  f1,
  b1,
  e1,
  here,
  (
    free,
    f2,
    b2,
    e2,
    raw,
    (
      first,
      f3,
      b3,
      e3,
      ops,
      (rest, f4, b4, e4, rep, (nil, same)),
    ),
  ),
) kind number w =
    let opcode : i.opcode ≡ n = sym (ap (λ r. r.opcode) same) ∙ number in (
      sym (ap (λ r. r.family) same) ∙ kind ∙ ap (λ m. (row m).1) (sym opcode),
      inr (
        w.0,
        ap (λ m. wide (row m)) opcode
            ∙ w.1,
      ),
    )

first_spelt : (prefix : Bool) (at n : ℕ) (op : _) (place : ℕ) (i : _) (bytes : List ℕ) → InBytes bytes
    → Spells (behind_first prefix at op) place i bytes → op.family ≡ (row n).1 → op.number ≡ n → op.operands ≡ (row n).0
    → (i.family ≡ (row i.opcode).1) × (Begins i.opcode i.numbers ⊎ IsWide i.opcode)
unfolding behind_first Spells
first_spelt true at n op place i bytes ok (long, front, back, parts, opcode, others) kind number heads_are =
    let h = wide_row _ long opcode.1 in
    wide_spelt at _ long (place + length front) i back others h.0 h.1 h.2
first_spelt false at n op place i bytes ok h kind number heads_are = plain_spelt at n op place i bytes ok h kind number
    heads_are

spelt_row : (place : ℕ) (i : _) (bytes : List ℕ) → InBytes bytes → Spells instruction place i bytes
    → (i.family ≡ (row i.opcode).1) × (Begins i.opcode i.numbers ⊎ IsWide i.opcode)
unfolding instruction Spells
spelt_row place i bytes ok (at, front, back, parts, here, (op, first, rest, parted, opcode, others)) =
    let h = opcode_row _ op opcode.1 in
    let ok1 = back_bytes front back (subst InBytes parts ok) in
    first_spelt (is_prefix op.family) at _ op _ i rest (back_bytes first rest (subst InBytes parted ok1)) others h.0 h.1
    h.2

cut_row : (k place : ℕ) (bytes : List ℕ) (insns : _) (stop : ℕ) → InBytes bytes → IsCutFrom place bytes insns stop
    → (i : _) → slice_get insns k ≡ Some i → (i.family ≡ (row i.opcode).1) × (Begins i.opcode i.numbers
    ⊎ IsWide i.opcode)
unfolding IsCutFrom
cut_row k place bytes [] stop ok h i e = absurd cc
cut_row zero place bytes (first ∷ insns) stop ok (front, back, parts, spelt, rest) i e =
    subst (λ r. (r.family ≡ (row r.opcode).1) × (Begins r.opcode r.numbers ⊎ IsWide r.opcode)) (same_Some first i e)
    (spelt_row place first front (front_bytes front back (subst InBytes parts ok)) spelt)
cut_row (suc k) place bytes (first ∷ insns) stop ok (front, back, parts, spelt, rest) i e =
    cut_row k (place + length front) back insns stop (back_bytes front back (subst InBytes parts ok)) rest i e

-- ---- a decoded instruction

pub decoded_instruction : (t : ClassTree) (method : MethodTree) (tree : CodeTree) (insns : List JInsn)
    → IsDecoded t method tree insns → AreWords t.pool → InBytes tree.bytes → (k : ℕ) (i : JInsn)
    → slice_get insns k ≡ Some i → IsInstruction i.op
decoded_instruction t method tree insns is words ok k i e = elim (slice_get (cut tree.bytes).insns k) as
    (λ o. slice_get (cut tree.bytes).insns k ≡ o → option_map (with_names t.pool) o ≡ Some i → IsInstruction i.op) [
      | None ↦ λ f named. absurd cc
      | Some r ↦ λ f named.
          let is_op : op_of t.pool r.at r.opcode r.family r.numbers ≡ i.op =
          ap (λ (x : JInsn). x.op) (same_Some (with_names t.pool r) i named) in
          let of_row = cut_row k 0 tree.bytes (cut tree.bytes).insns (cut tree.bytes).stop ok (is_cut tree.bytes) r f in
          let same : op_of t.pool r.at r.opcode (row r.opcode).1 r.numbers ≡ i.op =
          sym (ap (λ g. op_of t.pool r.at r.opcode g r.numbers) of_row.0) ∙ is_op in
          let within = slice_get_within (cut tree.bytes).insns k r f in
          let here : Contains (cut tree.bytes).insns r =
          (k, within, get_or_from_slice_get (cut tree.bytes).insns k r r f) in
          let typed = not_true (has_wrong_type r.family r.numbers) (λ h. is.fit r.at (wrong_type r here h)) in
          let ascends = not_true (has_wrong_values r.family r.numbers) (λ h. is.fit r.at (wrong_values r here h)) in
          record {
            opcode = ap has_opcode (sym same) ∙ opcode_fits r.opcode t.pool r.at r.numbers;
            numbers = subst NumbersFit same (⊎_elim
                (λ b. number_fits r.opcode t.pool r.at r.numbers words b (ap (λ g. has_wrong_type g r.numbers)
                (sym of_row.0) ∙ typed))
                (λ w. wide_fits r.opcode w.0 w.1 t.pool r.at r.numbers)
                of_row.1);
            switch = subst SwitchFits same (switch_fits t.pool r.at r.opcode r.numbers of_row.1
                (ap (λ g. has_wrong_values g r.numbers) (sym of_row.0) ∙ ascends));
          }
    ] refl (sym (slice_get-map (with_names t.pool) (cut tree.bytes).insns k)
    ∙ sym (ap (λ (xs : List JInsn). slice_get xs k) is.insns_are) ∙ e)
  where
    not_true : (b : Bool) → (b ≡ true → ⊥) → b ≡ false
    not_true true h = absurd (h refl)
    not_true false h = refl
