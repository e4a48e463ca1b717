-- An instruction is what its opcode, its operands and its table are.
use Rattle.std.proofs.Common.{◌≡◌, ℕ, ◌+◌, ◌<◌, ◌≤◌, List, [], ◌∷◌, length, get_or, drop, refl, sym}
use Rattle.std.proofs.Common.{ap, ◌∙◌, inl, inr, arith, Option, Some, None, ℤ}
use Rattle.std.specs.Prelude.{if◌then◌else◌}
use Rattle.std.proofs.lemmas.Bool.{cases_lt}
use Rattle.cjc_capread.specs.Opcodes.{Form, form, widths}
use Rattle.cjc_capread.specs.Decode.{Instruction, Front, operands_of, before_table, in_table, is_whole, with_table}
use Rattle.cjc_capread.specs.Decode.{with_operands, decode_as, decode, size}
use Rattle.cjc_capread.specs.Decoder.Decoded.{whole_table, table_of, kinds_in}
use Rattle.cjc_capread.specs.Decoder.Shapes.{before}
use Rattle.cjc_capread.proofs.DecoderLaws.Tables.{cut_short}
use Rattle.cjc_bytes.proofs.Bools.{bool_either}

whole : (op : ℕ) (f : Form) (vs t : List ℤ) (o : Option Front) → Some t ≡ whole_table f vs o
    → Some (record { opcode = op; operands = vs; table = t }) ≡ with_table op f vs o
whole op f vs t None e = absurd cc
whole op f vs t (Some front) e =
    bool_either (is_whole f vs front.values)
    (λ is. let same : Some t ≡ Some front.values = e ∙ ap (λ b. if b then Some front.values else None) is
    in rw is (ap (λ (o : Option (List ℤ)). made o) same))
    (λ is. let none : Some t ≡ None = e ∙ ap (λ b. if b then Some front.values else None) is in absurd cc)
  where
    made : Option (List ℤ) → Option Instruction
    made None = None
    made (Some xs) = Some (record { opcode = op; operands = vs; table = xs })

not_whole : (op : ℕ) (f : Form) (vs : List ℤ) (o : Option Front) → None ≡ whole_table f vs o
    → None ≡ with_table op f vs o
not_whole op f vs None e = refl
not_whole op f vs (Some front) e =
    bool_either (is_whole f vs front.values)
    (λ is. let some : None ≡ Some front.values = e ∙ ap (λ b. if b then Some front.values else None) is in absurd cc)
    (λ is. rw is refl)

pub decode_some : (bs r : List ℕ) (s : Option Form) (vs t : List ℤ) → 0 < length bs → s ≡ form (get_or bs 0 0)
    → operands_of (before s) (drop 1 bs) ≡ Some (record { values = vs; rest = drop (1 + widths (before s)) bs })
    → r ≡ drop (1 + widths (before s)) bs
    → Some t ≡ table_of s vs r → Some (record { opcode = get_or bs 0 0; operands = vs; table = t }) ≡ decode bs
decode_some [] r s vs t some is read rest table = absurd (omega (arith, some))
decode_some (op ∷ bs) r None vs t some is read rest table = absurd cc
decode_some (op ∷ bs) r (Some f) vs t some is read rest table =
    let there : Some t ≡ whole_table f vs (operands_of (in_table f vs) (drop (1 + widths (before_table f)) (op ∷ bs))) =
    table ∙ ap (λ ys. whole_table f vs (operands_of (in_table f vs) ys)) rest in
    whole op f vs t (operands_of (in_table f vs) (drop (1 + widths (before_table f)) (op ∷ bs))) there
    ∙ sym (ap (λ o. with_operands op f o) read)
    ∙ ap (λ o. decode_as op o bs) is

pub decode_none : (bs r : List ℕ) (s : Option Form) (vs : List ℤ) → 0 < length bs → s ≡ form (get_or bs 0 0)
    → operands_of (before s) (drop 1 bs) ≡ Some (record { values = vs; rest = drop (1 + widths (before s)) bs })
    → r ≡ drop (1 + widths (before s)) bs
    → None ≡ table_of s vs r → None ≡ decode bs
decode_none [] r s vs some is read rest table = absurd (omega (arith, some))
decode_none (op ∷ bs) r None vs some is read rest table = ap (λ o. decode_as op o bs) is
decode_none (op ∷ bs) r (Some f) vs some is read rest table =
    let there : None ≡ whole_table f vs (operands_of (in_table f vs) (drop (1 + widths (before_table f)) (op ∷ bs))) =
    table ∙ ap (λ ys. whole_table f vs (operands_of (in_table f vs) ys)) rest in
    not_whole op f vs (operands_of (in_table f vs) (drop (1 + widths (before_table f)) (op ∷ bs))) there
    ∙ sym (ap (λ o. with_operands op f o) read)
    ∙ ap (λ o. decode_as op o bs) is

pub decode_short : (bs : List ℕ) (s : Option Form) → 0 < length bs → s ≡ form (get_or bs 0 0)
    → length bs < 1 + widths (before s) → None ≡ decode bs
decode_short [] s some is lt = absurd (omega (arith, some))
decode_short (op ∷ bs) None some is lt = ap (λ o. decode_as op o bs) is
decode_short (op ∷ bs) (Some f) some is lt =
    let none : operands_of (before_table f) bs ≡ None = cut_short (before_table f) bs (omega (arith, lt)) in
    sym (ap (λ o. with_operands op f o) none) ∙ ap (λ o. decode_as op o bs) is

pub decode_empty : (bs : List ℕ) → length bs ≡ 0 → None ≡ decode bs
decode_empty [] e = refl
decode_empty (b ∷ bs) e = absurd (omega (arith, e))

-- ---- sizes

pub size_is : (s : Option Form) (i : Instruction) (behind n : ℕ) → s ≡ form i.opcode → behind ≡ 1 + widths (before s)
    → n ≡ kinds_in s i.operands → behind + n ≡ size i
size_is None i behind n e b k = rw (← e) (omega (arith, b, k))
size_is (Some f) i behind n e b k = rw (← e) (omega (arith, b, k))

pub table_fits : (s : Option Form) (vs t : List ℤ) (r : List ℕ) → Some t ≡ table_of s vs r → kinds_in s vs ≤ length r
table_fits None vs t r e = omega arith
table_fits (Some f) vs t r e =
    elim (cases_lt (length r) (widths (in_table f vs))) [
      | inl lt ↦ (let none : Some t ≡ None = e ∙ ap (whole_table f vs) (cut_short (in_table f vs) r lt) in absurd cc)
      | inr le ↦ le
    ]
