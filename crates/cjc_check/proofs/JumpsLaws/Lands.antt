-- Jumps that land, and the instructions of a method one by one.
use Rattle.std.proofs.Common.{◌≡◌, ℕ, ◌+◌, ◌-◌, ◌<◌, ◌≤◌, ◌==◌, Bool, true, false, List, [], ◌∷◌, ◌++◌, length}
use Rattle.std.proofs.Common.{length-drop, get_or, drop, map, refl, sym, ap, ◌∙◌, arith, Option, Some, None, ℤ, pos}
use Rattle.std.proofs.Common.{negsuc}
use Rattle.std.specs.Prelude.{◌&&◌, ◌||◌, nat_lt, if◌then◌else◌}
use Rattle.std.specs.List.{list_all, list_any}
use Rattle.std.specs.Ordering.{int_eq}
use Rattle.std.proofs.lemmas.Bool.Decides.{nat_tests, same_from_decides, Decides-int_eq, Decides-like, Decides-eqb}
use Rattle.std.proofs.lemmas.List.{drop_all}
use Rattle.std.proofs.lemmas.Option.{same_Some}
use Rattle.cjc_capread.specs.Opcodes.{Signed2, form}
use Rattle.cjc_capread.specs.Decode.{First, Instruction, operand}
use Rattle.cjc_check.specs.declared.codes.code.At.{At}
use Rattle.cjc_check.specs.Codes.Bodies.{placed_of}
use Rattle.cjc_capread.specs.Decoder.Decoded.{numbers}
use Rattle.cjc_capread.specs.Decoder.Shapes.{entry_size, form_of, matches_in}
use Rattle.cjc_capread.specs.declared.decoder.shape.Shape.{Shape}
use Rattle.cjc_capread.specs.declared.decoder.shape.Shape.TheVariants as shapes
use Rattle.cjc_capread.specs.declared.decoder.table.Matches.{Matches}
use Rattle.cjc_capread.specs.declared.decoder.table.Matches.TheVariants.{Counted, Short, Int}
use Rattle.cjc_check_rules.specs.declared.spot.ComponentPlace.{ComponentPlace}
use Rattle.cjc_check_rules.specs.Spots.{earlier, first, in_info, unless}
use Rattle.cjc_check_rules.specs.Codes.{Code}
use Rattle.cjc_check_rules.specs.Instructions.{ends_code, default_of, in_code, is_empty, is_jump, jumps, jumps_land}
use Rattle.cjc_check_rules.specs.Instructions.{pair_offsets, switch_offsets}
use Rattle.cjc_check_rules.proofs.Firsts.{earlier_none, earlier_assoc, first_append, first_nothing}
use Rattle.cjc_check.specs.Jumps.Offsets.{is_switch, natural, offsets_in}
use Rattle.cjc_check_tables.proofs.CheckIndexEdges.{and_true}
use Rattle.cjc_capread.proofs.BytesGets.{at_item}

-- ---- where a jump goes

eq_pos : (a n : ℕ) → int_eq (pos a) (pos n) ≡ (a == n)
eq_pos a n = same_from_decides (int_eq (pos a) (pos n)) (a == n) (Decides-int_eq (pos a) (pos n)) (Decides-like (a == n)
    (λ e. ap (λ k. pos k) e) (λ e. cc) (Decides-eqb a n))

eq_neg : (a n : ℕ) → int_eq (pos a) (negsuc n) ≡ false
eq_neg a n = refl

pub lands_at : (insns : List At) (n : ℕ) → list_any (λ m. m == n) (map (λ a. a.at) insns)
    ≡ list_any (λ j. int_eq (pos j.at) (pos n)) (map placed_of insns)
lands_at [] n = refl
lands_at (a ∷ insns) n =
    ap (λ b. (a.at == n) || b) (lands_at insns n)
    ∙ ap (λ b. b || list_any (λ j. int_eq (pos j.at) (pos n)) (map placed_of insns)) (sym (eq_pos a.at n))

pub lands_nowhere : (insns : List At) (n : ℕ) → false ≡ list_any (λ j. int_eq (pos j.at) (negsuc n))
    (map placed_of insns)
lands_nowhere [] n = refl
lands_nowhere (a ∷ insns) n = lands_nowhere insns n

natural_pos : (z : ℤ) (n : ℕ) → natural (Some z) ≡ Some n → pos n ≡ z
natural_pos (pos m) n e = cc
natural_pos (negsuc m) n e = absurd cc

pub lands_to : (insns : List At) (z : ℤ) (n : ℕ) → natural (Some z) ≡ Some n
    → list_any (λ m. m == n) (map (λ a. a.at) insns) ≡ list_any (λ j. int_eq (pos j.at) z) (map placed_of insns)
lands_to insns z n e = lands_at insns n ∙ ap (λ y. list_any (λ j. int_eq (pos j.at) y) (map placed_of insns))
    (natural_pos z n e)

pub lands_before : (insns : List At) (z : ℤ) → natural (Some z) ≡ None
    → false ≡ list_any (λ j. int_eq (pos j.at) z) (map placed_of insns)
lands_before insns (pos m) e = absurd cc
lands_before insns (negsuc m) e = lands_nowhere insns m

pub is_empty_map : (insns : List At) → is_empty (map placed_of insns) ≡ (length insns == 0)
is_empty_map [] = refl
is_empty_map (a ∷ insns) = grind (arith, nat_tests)

-- ---- the offsets of a table

abbrev pub Continues : Matches → (far : ℤ) → List ℕ → Type 0
Continues m far bs = offsets_in m (numbers m bs) ≡ far ∷ offsets_in m (numbers m (drop (entry_size m) bs))

pub offset_more : (m : Matches) (bs r : List ℕ) (far : ℤ) → entry_size m ≤ length bs
    → operand Signed2 (drop (entry_size m - 2) bs) ≡ Some (record { value = far; rest = r }) → Continues m far bs
unfolding numbers
offset_more Counted [] r far le e = absurd (omega (arith, le))
offset_more Counted (a ∷ []) r far le e = absurd (omega (arith, le))
offset_more Counted (a ∷ b ∷ bs) r far le e = ap (λ (z : ℤ). z ∷ numbers Counted bs) (ap (λ (h : First). h.value)
    (same_Some _ _ e))
offset_more Short [] r far le e = absurd (omega (arith, le))
offset_more Short (a ∷ []) r far le e = absurd (omega (arith, le))
offset_more Short (a ∷ b ∷ []) r far le e = absurd (omega (arith, le))
offset_more Short (a ∷ b ∷ c ∷ []) r far le e = absurd (omega (arith, le))
offset_more Short (a ∷ b ∷ c ∷ d ∷ bs) r far le e = ap (λ (z : ℤ). z ∷ pair_offsets (numbers Short bs))
    (ap (λ (h : First). h.value) (same_Some _ _ e))
offset_more Int [] r far le e = absurd (omega (arith, le))
offset_more Int (a ∷ []) r far le e = absurd (omega (arith, le))
offset_more Int (a ∷ b ∷ []) r far le e = absurd (omega (arith, le))
offset_more Int (a ∷ b ∷ c ∷ []) r far le e = absurd (omega (arith, le))
offset_more Int (a ∷ b ∷ c ∷ d ∷ []) r far le e = absurd (omega (arith, le))
offset_more Int (a ∷ b ∷ c ∷ d ∷ f ∷ []) r far le e = absurd (omega (arith, le))
offset_more Int (a ∷ b ∷ c ∷ d ∷ f ∷ g ∷ bs) r far le e = ap (λ (z : ℤ). z ∷ pair_offsets (numbers Int bs))
    (ap (λ (h : First). h.value) (same_Some _ _ e))

pub offset_none : (m : Matches) (bs : List ℕ) → length bs < entry_size m → offsets_in m (numbers m bs) ≡ []
unfolding numbers
offset_none Counted [] lt = refl
offset_none Counted (a ∷ []) lt = refl
offset_none Counted (a ∷ b ∷ bs) lt = absurd (omega (arith, lt))
offset_none Short [] lt = refl
offset_none Short (a ∷ []) lt = refl
offset_none Short (a ∷ b ∷ []) lt = refl
offset_none Short (a ∷ b ∷ c ∷ []) lt = refl
offset_none Short (a ∷ b ∷ c ∷ d ∷ bs) lt = absurd (omega (arith, lt))
offset_none Int [] lt = refl
offset_none Int (a ∷ []) lt = refl
offset_none Int (a ∷ b ∷ []) lt = refl
offset_none Int (a ∷ b ∷ c ∷ []) lt = refl
offset_none Int (a ∷ b ∷ c ∷ d ∷ []) lt = refl
offset_none Int (a ∷ b ∷ c ∷ d ∷ f ∷ []) lt = refl
offset_none Int (a ∷ b ∷ c ∷ d ∷ f ∷ g ∷ bs) lt = absurd (omega (arith, lt))

pub stops_at : (P : ℤ → Bool) (m : Matches) (size : ℕ) (bs r : List ℕ) (far : ℤ) (total : Bool) → size ≡ entry_size m
    → size ≤ length bs
    → operand Signed2 (drop (size - 2) bs) ≡ Some (record { value = far; rest = r }) → P far ≡ false
    → list_all P (offsets_in m (numbers m bs)) ≡ total → false ≡ total
stops_at P m size bs r far total sized le e fails so_far =
    let n = entry_size m in
    let e2 : operand Signed2 (drop (n - 2) bs) ≡ Some (record { value = far; rest = r }) =
    ap (λ k. operand Signed2 (drop (k - 2) bs)) (sym sized) ∙ e in
    let more = offset_more m bs r far (omega (arith, le, sized)) e2 in
    sym (ap (λ b. b && list_all P (offsets_in m (numbers m (drop n bs)))) fails) ∙ sym (ap (list_all P) more) ∙ so_far

pub goes_on : (P : ℤ → Bool) (m : Matches) (size : ℕ) (bs r : List ℕ) (far : ℤ) (total : Bool) → size ≡ entry_size m
    → size ≤ length bs
    → operand Signed2 (drop (size - 2) bs) ≡ Some (record { value = far; rest = r }) → P far ≡ true
    → list_all P (offsets_in m (numbers m bs)) ≡ total
    → list_all P (offsets_in m (numbers m (drop size bs))) ≡ total
goes_on P m size bs r far total sized le e passes so_far =
    let n = entry_size m in
    let e2 : operand Signed2 (drop (n - 2) bs) ≡ Some (record { value = far; rest = r }) =
    ap (λ k. operand Signed2 (drop (k - 2) bs)) (sym sized) ∙ e in
    let more = offset_more m bs r far (omega (arith, le, sized)) e2 in
    ap (λ k. list_all P (offsets_in m (numbers m (drop k bs)))) sized
    ∙ sym (ap (λ b. b && list_all P (offsets_in m (numbers m (drop n bs)))) passes) ∙ sym (ap (list_all P) more)
    ∙ so_far

pub none_left : (P : ℤ → Bool) (m : Matches) (size : ℕ) (bs : List ℕ) (total : Bool) → size ≡ entry_size m
    → length bs < size → list_all P (offsets_in m (numbers m bs)) ≡ total → true ≡ total
none_left P m size bs total sized lt so_far = sym (ap (list_all P) (offset_none m bs (omega (arith, lt, sized))))
    ∙ so_far

all_append : (P : ℤ → Bool) (xs ys : List ℤ) → list_all P (xs ++ ys) ≡ (list_all P xs && list_all P ys)
all_append P [] ys = refl
all_append P (x ∷ xs) ys = assoc (P x) (list_all P xs) (list_all P ys) (list_all P (xs ++ ys)) (all_append P xs ys)
  where
    assoc : (a b c d : Bool) → d ≡ (b && c) → (a && d) ≡ ((a && b) && c)
    assoc true b c d e = e
    assoc false b c d e = refl

by_shape : (P : ℤ → Bool) (s : Shape) (i : Instruction) (m : Matches) → is_switch s ≡ true → m ≡ matches_in s
    → list_all P (switch_offsets (form_of s) i) ≡ (list_all P (default_of i.operands)
    && list_all P (offsets_in m i.table))
by_shape P shapes.ShortTable i m is e = rw e (all_append P (default_of i.operands) i.table)
by_shape P shapes.IntTable i m is e = rw e (all_append P (default_of i.operands) i.table)
by_shape P shapes.ShortPairs i m is e = rw e (all_append P (default_of i.operands) (pair_offsets i.table))
by_shape P shapes.IntPairs i m is e = rw e (all_append P (default_of i.operands) (pair_offsets i.table))
by_shape P shapes.NoOp i m is e = absurd cc
by_shape P shapes.Bare i m is e = absurd cc
by_shape P shapes.Byte i m is e = absurd cc
by_shape P shapes.Signed1 i m is e = absurd cc
by_shape P shapes.Signed2 i m is e = absurd cc
by_shape P shapes.Signed4 i m is e = absurd cc
by_shape P shapes.Increment1 i m is e = absurd cc
by_shape P shapes.Increment2 i m is e = absurd cc
by_shape P shapes.Index1 i m is e = absurd cc
by_shape P shapes.Index2 i m is e = absurd cc
by_shape P shapes.Typed i m is e = absurd cc
by_shape P shapes.Call i m is e = absurd cc

pub switch_jumps : (P : ℤ → Bool) (s : Shape) (i : Instruction) (m : Matches) (t : Bool) → is_jump i.opcode ≡ false
    → is_switch s ≡ true → form_of s ≡ form i.opcode → m ≡ matches_in s
    → list_all P (default_of i.operands) ≡ true → t ≡ list_all P (offsets_in m i.table) → t ≡ list_all P (jumps i)
switch_jumps P s i m t jump is shape matches default e =
    e ∙ sym (ap (λ b. b && list_all P (offsets_in m i.table)) default) ∙ sym (by_shape P s i m is matches)
    ∙ ap (λ o. list_all P (switch_offsets o i)) shape
    ∙ sym (ap (λ b. list_all P (if b then i.operands else switch_offsets (form i.opcode) i)) jump)

-- ---- instructions one by one

step_in : (code : Code) (a : At) (rest : List At) (t : Bool) → t ≡ (jumps_land code (placed_of a)
    && (nat_lt 0 (length rest) || ends_code a.insn.opcode))
    → first (in_code code (map placed_of (a ∷ rest))) ≡ earlier (first (unless t (in_info 7 a.at)))
    (first (in_code code (map placed_of rest)))
unfolding in_code
step_in code a [] t e =
    ap (λ (b : Bool). first (unless b (in_info 7 a.at))) (sym e)
    ∙ sym (earlier_none (first (unless t (in_info 7 a.at)))) ∙ ap (earlier (first (unless t (in_info 7 a.at))))
    (sym first_nothing)
step_in code a (b ∷ rest) t e =
    let more : nat_lt 0 (length (b ∷ rest)) ≡ true = grind (arith, nat_tests) in
    let same : t ≡ jumps_land code (placed_of a) = e ∙ ap (λ (s : Bool). jumps_land code (placed_of a)
    && (s || ends_code a.insn.opcode)) more ∙ and_true (jumps_land code (placed_of a)) in
    first_append (unless (jumps_land code (placed_of a)) (in_info 7 a.at)) (in_code code (map placed_of (b ∷ rest)))
    ∙ ap (λ (s : Bool). earlier (first (unless s (in_info 7 a.at))) (first (in_code code (map placed_of (b ∷ rest)))))
    (sym same)

pub in_code_more : (code : Code) (i : ℕ) (a : At) (insns : List At) (g : Bool) (best found total :
    Option ComponentPlace) → i < length insns → a ≡ get_or insns i a
    → g ≡ (nat_lt (i + 1) (length insns) || ends_code a.insn.opcode)
    → found ≡ first (unless (jumps_land code (placed_of a) && g) (in_info 7 a.at))
    → earlier best (first (in_code code (map placed_of (drop i insns)))) ≡ total
    → earlier (earlier best found) (first (in_code code (map placed_of (drop (i + 1) insns)))) ≡ total
in_code_more code i a insns g best found total lt is test f so_far =
    let rest = drop (i + 1) insns in
    let t = jumps_land code (placed_of a) && g in
    let n : length rest ≡ length insns - (i + 1) = length-drop (i + 1) insns in
    let more : nat_lt (i + 1) (length insns) ≡ nat_lt 0 (length rest) = grind (arith, nat_tests, n) in
    let test2 : t ≡ (jumps_land code (placed_of a) && (nat_lt 0 (length rest) || ends_code a.insn.opcode)) =
    ap (λ (b : Bool). jumps_land code (placed_of a) && b) (test ∙ ap (λ (b : Bool). b || ends_code a.insn.opcode) more)
    in
    ap (λ o. earlier (earlier best o) (first (in_code code (map placed_of rest)))) f
    ∙ earlier_assoc best (first (unless t (in_info 7 a.at))) (first (in_code code (map placed_of rest)))
    ∙ ap (earlier best) (sym (step_in code a rest t test2))
    ∙ ap (λ (ys : List At). earlier best (first (in_code code (map placed_of ys)))) (sym (at_item i a insns lt is))
    ∙ so_far

pub in_code_all : (code : Code) (i : ℕ) (insns : List At) (best total : Option ComponentPlace) → length insns ≤ i
    → earlier best (first (in_code code (map placed_of (drop i insns)))) ≡ total → best ≡ total
unfolding in_code
in_code_all code i insns best total le so_far =
    sym (earlier_none best) ∙ ap (earlier best) (sym first_nothing)
    ∙ ap (λ (ys : List At). earlier best (first (in_code code (map placed_of ys)))) (sym (drop_all i insns le)) ∙ so_far
