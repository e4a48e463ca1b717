-- Tables of switches: so many entries at the front of bytes, and matches that ascend.
use Rattle.std.proofs.Common.{◌≡◌, ℕ, zero, suc, ◌+◌, ◌*◌, ◌<◌, ◌≤◌, ◌^◌, Bool, true, false, List, [], ◌∷◌, length}
use Rattle.std.proofs.Common.{length-drop, take, drop, refl, sym, ap, ◌∙◌, arith, Option, Some, None, ℤ}
use Rattle.std.specs.Prelude.{◌&&◌, int_lt}
use Rattle.std.proofs.Common.{FitsSigned, to_z, of_z, w32}
use Rattle.std.specs.Int.Signed.{le_z}
use Rattle.std.proofs.lemmas.Int.{ints, to_z-of_z}
use Rattle.std.proofs.lemmas.Option.{same_Some}
use Rattle.cjc_capread.specs.Opcodes.{Operand, Byte, Signed1, Signed2, Signed4, Index1, Index2, width, widths}
use Rattle.cjc_capread.specs.Decode.{First, Front, operand, operands_of, first_and, put_first, signed, pairs}
use Rattle.cjc_capread.specs.Decode.{matches_ascend}
use Rattle.cjc_capread.specs.declared.decoder.table.Matches.{Matches}
use Rattle.cjc_capread.specs.declared.decoder.table.Matches.TheVariants.{Counted, Short, Int}
use Rattle.cjc_capread.specs.Decoder.Decoded.{numbers}
use Rattle.cjc_capread.specs.Decoder.Shapes.{entries_of, entry_size, matches_of, match_of}

-- ---- how many bytes

pub entries_width : (m : Matches) (n : ℕ) → widths (entries_of m n) ≡ n * entry_size m
entries_width Counted zero = refl
entries_width Counted (suc n) = let h = entries_width Counted n in omega (arith, h)
entries_width Short zero = refl
entries_width Short (suc n) = let h = entries_width Short n in omega (arith, h)
entries_width Int zero = refl
entries_width Int (suc n) = let h = entries_width Int n in omega (arith, h)

operand_length : (k : Operand) (bs : List ℕ) (f : First) → operand k bs ≡ Some f → length bs ≡ width k + length f.rest
operand_length Byte [] f e = absurd cc
operand_length Byte (a ∷ bs) f e = let r : bs ≡ f.rest = cc in rw r (omega arith)
operand_length Signed1 [] f e = absurd cc
operand_length Signed1 (a ∷ bs) f e = let r : bs ≡ f.rest = cc in rw r (omega arith)
operand_length Index1 [] f e = absurd cc
operand_length Index1 (a ∷ bs) f e = let r : bs ≡ f.rest = cc in rw r (omega arith)
operand_length Signed2 [] f e = absurd cc
operand_length Signed2 (a ∷ []) f e = absurd cc
operand_length Signed2 (a ∷ b ∷ bs) f e = let r : bs ≡ f.rest = cc in rw r (omega arith)
operand_length Index2 [] f e = absurd cc
operand_length Index2 (a ∷ []) f e = absurd cc
operand_length Index2 (a ∷ b ∷ bs) f e = let r : bs ≡ f.rest = cc in rw r (omega arith)
operand_length Signed4 [] f e = absurd cc
operand_length Signed4 (a ∷ []) f e = absurd cc
operand_length Signed4 (a ∷ b ∷ []) f e = absurd cc
operand_length Signed4 (a ∷ b ∷ c ∷ []) f e = absurd cc
operand_length Signed4 (a ∷ b ∷ c ∷ d ∷ bs) f e = let r : bs ≡ f.rest = cc in rw r (omega arith)

pub cut_short : (kinds : List Operand) (bs : List ℕ) → length bs < widths kinds → operands_of kinds bs ≡ None
cut_short [] bs lt = absurd (omega (arith, lt))
cut_short (k ∷ kinds) bs lt = after (operand k bs) refl (λ f h. cut_short kinds f.rest h)
  where
    after : (o : Option First) → operand k bs ≡ o → ((f : First) → length f.rest < widths kinds
        → operands_of kinds f.rest ≡ None) → first_and (operand k bs) (operands_of kinds) ≡ None
    after None e next = rw e refl
    after (Some f) e next =
        let n = operand_length k bs f e in
        let r : operands_of kinds f.rest ≡ None = next f (omega (arith, lt, n)) in
        rw (e, r) refl

-- ---- entries

two_more : (n : ℕ) → suc n * 2 ≡ suc (suc (n * 2))
two_more n = omega arith

four_more : (n : ℕ) → suc n * 4 ≡ suc (suc (suc (suc (n * 4))))
four_more n = omega arith

six_more : (n : ℕ) → suc n * 6 ≡ suc (suc (suc (suc (suc (suc (n * 6))))))
six_more n = omega arith

abbrev pub read_as : Matches → (size : ℕ) → List ℕ → Option Front
read_as m size bs = Some (record { values = numbers m (take size bs); rest = drop size bs })

pub entries_read : (m : Matches) (n : ℕ) (bs : List ℕ) → n * entry_size m ≤ length bs → operands_of (entries_of m n) bs
    ≡ read_as m (n * entry_size m) bs
unfolding numbers
entries_read Counted zero bs le = refl
entries_read Short zero bs le = refl
entries_read Int zero bs le = refl
entries_read Counted (suc n) [] le = absurd (omega (arith, le))
entries_read Counted (suc n) (a ∷ []) le = absurd (omega (arith, le))
entries_read Counted (suc n) (a ∷ b ∷ bs) le =
    let h = entries_read Counted n bs (omega (arith, le)) in
    rw (two_more n) (ap (put_first (signed 32768 (256 * a + b))) h)
entries_read Short (suc n) [] le = absurd (omega (arith, le))
entries_read Short (suc n) (a ∷ []) le = absurd (omega (arith, le))
entries_read Short (suc n) (a ∷ b ∷ []) le = absurd (omega (arith, le))
entries_read Short (suc n) (a ∷ b ∷ c ∷ []) le = absurd (omega (arith, le))
entries_read Short (suc n) (a ∷ b ∷ c ∷ d ∷ bs) le =
    let h = entries_read Short n bs (omega (arith, le)) in
    rw (four_more n) (ap (λ o. put_first (signed 32768 (256 * a + b)) (put_first (signed 32768 (256 * c + d)) o)) h)
entries_read Int (suc n) [] le = absurd (omega (arith, le))
entries_read Int (suc n) (a ∷ []) le = absurd (omega (arith, le))
entries_read Int (suc n) (a ∷ b ∷ []) le = absurd (omega (arith, le))
entries_read Int (suc n) (a ∷ b ∷ c ∷ []) le = absurd (omega (arith, le))
entries_read Int (suc n) (a ∷ b ∷ c ∷ d ∷ []) le = absurd (omega (arith, le))
entries_read Int (suc n) (a ∷ b ∷ c ∷ d ∷ e ∷ []) le = absurd (omega (arith, le))
entries_read Int (suc n) (a ∷ b ∷ c ∷ d ∷ e ∷ f ∷ bs) le =
    let h = entries_read Int n bs (omega (arith, le)) in
    rw (six_more n) (ap (λ o. put_first (signed (2 ^ 31) (16777216 * a + 65536 * b + 256 * c + d))
    (put_first (signed 32768 (256 * e + f)) o)) h)

-- ---- matches that ascend

-- numbers with a match in front
abbrev pub Begins : ℤ → List ℤ → List ℤ → Type 0
Begins x rest all = (far : ℤ) × (all ≡ x ∷ far ∷ rest)

numbers_more : (wide : Bool) (bs r : List ℕ) (x : ℤ) → entry_size (matches_of wide) ≤ length bs
    → operand (match_of wide) bs ≡ Some (record { value = x; rest = r })
    → Begins x (numbers (matches_of wide) (drop (entry_size (matches_of wide)) bs)) (numbers (matches_of wide) bs)
unfolding numbers
numbers_more false [] r x le e = absurd (omega (arith, le))
numbers_more false (a ∷ []) r x le e = absurd (omega (arith, le))
numbers_more false (a ∷ b ∷ []) r x le e = absurd (omega (arith, le))
numbers_more false (a ∷ b ∷ c ∷ []) r x le e = absurd (omega (arith, le))
numbers_more false (a ∷ b ∷ c ∷ d ∷ bs) r x le e =
    let far = signed 32768 (256 * c + d) in
    let is : signed 32768 (256 * a + b) ≡ x = ap (λ (f : First). f.value) (same_Some _ _ e) in
    (far, ap (λ y. y ∷ far ∷ numbers Short bs) is)
numbers_more true [] r x le e = absurd (omega (arith, le))
numbers_more true (a ∷ []) r x le e = absurd (omega (arith, le))
numbers_more true (a ∷ b ∷ []) r x le e = absurd (omega (arith, le))
numbers_more true (a ∷ b ∷ c ∷ []) r x le e = absurd (omega (arith, le))
numbers_more true (a ∷ b ∷ c ∷ d ∷ []) r x le e = absurd (omega (arith, le))
numbers_more true (a ∷ b ∷ c ∷ d ∷ f ∷ []) r x le e = absurd (omega (arith, le))
numbers_more true (a ∷ b ∷ c ∷ d ∷ f ∷ g ∷ bs) r x le e =
    let far = signed 32768 (256 * f + g) in
    let is : signed (2 ^ 31) (16777216 * a + 65536 * b + 256 * c + d) ≡ x =
    ap (λ (h : First). h.value) (same_Some _ _ e) in
    (far, ap (λ y. y ∷ far ∷ numbers Int bs) is)

pub rise_more : (wide : Bool) (bs r s : List ℕ) (x y : ℤ) → 2 * entry_size (matches_of wide) ≤ length bs
    → operand (match_of wide) (drop 0 bs) ≡ Some (record { value = x; rest = r })
    → operand (match_of wide) (drop (entry_size (matches_of wide)) bs) ≡ Some (record { value = y; rest = s })
    → matches_ascend (numbers (matches_of wide) bs) ≡ (int_lt x y
    && matches_ascend (numbers (matches_of wide) (drop (entry_size (matches_of wide)) bs)))
rise_more wide bs r s x y le e f =
    let size = entry_size (matches_of wide) in
    let n = length-drop size bs in
    let a = numbers_more wide bs r x (omega (arith, le)) e in
    let b = numbers_more wide (drop size bs) s y (omega (arith, le, n)) f in
    ap matches_ascend (a.1 ∙ ap (λ ns. x ∷ a.0 ∷ ns) b.1) ∙ ap (λ ns. int_lt x y && matches_ascend ns) (sym b.1)

pub numbers_less : (wide : Bool) (bs : List ℕ) → length bs < entry_size (matches_of wide) → numbers (matches_of wide) bs
    ≡ []
unfolding numbers
numbers_less false [] lt = refl
numbers_less false (a ∷ []) lt = refl
numbers_less false (a ∷ b ∷ []) lt = refl
numbers_less false (a ∷ b ∷ c ∷ []) lt = refl
numbers_less false (a ∷ b ∷ c ∷ d ∷ bs) lt = absurd (omega (arith, lt))
numbers_less true [] lt = refl
numbers_less true (a ∷ []) lt = refl
numbers_less true (a ∷ b ∷ []) lt = refl
numbers_less true (a ∷ b ∷ c ∷ []) lt = refl
numbers_less true (a ∷ b ∷ c ∷ d ∷ []) lt = refl
numbers_less true (a ∷ b ∷ c ∷ d ∷ e ∷ []) lt = refl
numbers_less true (a ∷ b ∷ c ∷ d ∷ e ∷ f ∷ bs) lt = absurd (omega (arith, lt))

pub rise_short : (wide : Bool) (bs : List ℕ) → length bs < 2 * entry_size (matches_of wide)
    → matches_ascend (numbers (matches_of wide) bs) ≡ true
unfolding numbers
rise_short false [] lt = refl
rise_short false (a ∷ []) lt = refl
rise_short false (a ∷ b ∷ []) lt = refl
rise_short false (a ∷ b ∷ c ∷ []) lt = refl
rise_short false (a ∷ b ∷ c ∷ d ∷ bs) lt =
    ap (λ ns. matches_ascend (signed 32768 (256 * a + b) ∷ signed 32768 (256 * c + d) ∷ ns)) (numbers_less false bs
    (omega (arith, lt)))
rise_short true [] lt = refl
rise_short true (a ∷ []) lt = refl
rise_short true (a ∷ b ∷ []) lt = refl
rise_short true (a ∷ b ∷ c ∷ []) lt = refl
rise_short true (a ∷ b ∷ c ∷ d ∷ []) lt = refl
rise_short true (a ∷ b ∷ c ∷ d ∷ e ∷ []) lt = refl
rise_short true (a ∷ b ∷ c ∷ d ∷ e ∷ f ∷ bs) lt =
    ap (λ ns. matches_ascend (signed (2 ^ 31) (16777216 * a + 65536 * b + 256 * c + d) ∷ signed 32768 (256 * e + f)
    ∷ ns)) (numbers_less true bs (omega (arith, lt)))

pub numbers_none : (m : Matches) → numbers m [] ≡ []
unfolding numbers
numbers_none Counted = refl
numbers_none Short = refl
numbers_none Int = refl

pub pairs_are : (wide : Bool) (n : ℕ) → entries_of (matches_of wide) n ≡ pairs (match_of wide) n
pairs_are true n = refl
pairs_are false n = refl

pub rise_stops : (wide : Bool) (k : Operand) (size : ℕ) (bs r s : List ℕ) (x y : ℤ) (total : Bool) → k ≡ match_of wide
    → size ≡ entry_size (matches_of wide) → 2 * size ≤ length bs
    → operand k (drop 0 bs) ≡ Some (record { value = x; rest = r }) → operand k (drop size bs)
    ≡ Some (record { value = y; rest = s }) → int_lt x y ≡ false
    → matches_ascend (numbers (matches_of wide) bs) ≡ total → false ≡ total
rise_stops wide k size bs r s x y total kind sized le e f fails so_far =
    let n = entry_size (matches_of wide) in
    let le2 : 2 * n ≤ length bs = omega (arith, le, sized) in
    let e2 : operand (match_of wide) (drop 0 bs) ≡ Some (record { value = x; rest = r }) =
    ap (λ j. operand j (drop 0 bs)) (sym kind) ∙ e in
    let f2 : operand (match_of wide) (drop n bs) ≡ Some (record { value = y; rest = s }) =
    ap (λ j. operand j (drop n bs)) (sym kind) ∙ ap (λ m. operand k (drop m bs)) (sym sized) ∙ f in
    sym (ap (λ b. b && matches_ascend (numbers (matches_of wide) (drop n bs))) fails)
    ∙ sym (rise_more wide bs r s x y le2 e2 f2) ∙ so_far

pub rise_on : (wide : Bool) (k : Operand) (size : ℕ) (bs r s : List ℕ) (x y : ℤ) (total : Bool) → k ≡ match_of wide
    → size ≡ entry_size (matches_of wide) → 2 * size ≤ length bs
    → operand k (drop 0 bs) ≡ Some (record { value = x; rest = r }) → operand k (drop size bs)
    ≡ Some (record { value = y; rest = s }) → int_lt x y ≡ true
    → matches_ascend (numbers (matches_of wide) bs) ≡ total → matches_ascend (numbers (matches_of wide) (drop size bs))
    ≡ total
rise_on wide k size bs r s x y total kind sized le e f passes so_far =
    let n = entry_size (matches_of wide) in
    let le2 : 2 * n ≤ length bs = omega (arith, le, sized) in
    let e2 : operand (match_of wide) (drop 0 bs) ≡ Some (record { value = x; rest = r }) =
    ap (λ j. operand j (drop 0 bs)) (sym kind) ∙ e in
    let f2 : operand (match_of wide) (drop n bs) ≡ Some (record { value = y; rest = s }) =
    ap (λ j. operand j (drop n bs)) (sym kind) ∙ ap (λ m. operand k (drop m bs)) (sym sized) ∙ f in
    ap (λ m. matches_ascend (numbers (matches_of wide) (drop m bs))) sized
    ∙ sym (ap (λ b. b && matches_ascend (numbers (matches_of wide) (drop n bs))) passes)
    ∙ sym (rise_more wide bs r s x y le2 e2 f2) ∙ so_far

pub not_less : (x y : ℤ) → FitsSigned w32 x → FitsSigned w32 y → le_z (to_z w32 (of_z w32 y)) (to_z w32 (of_z w32 x))
    ≡ true → int_lt x y ≡ false
not_less x y fx fy h = let e : le_z y x ≡ true = ap (λ z. le_z y z) (sym (to_z-of_z w32 x fx))
    ∙ ap (λ z. le_z z (to_z w32 (of_z w32 x))) (sym (to_z-of_z w32 y fy)) ∙ h in grind (arith, ints)

pub is_less : (x y : ℤ) → FitsSigned w32 x → FitsSigned w32 y → le_z (to_z w32 (of_z w32 y)) (to_z w32 (of_z w32 x))
    ≡ false → int_lt x y ≡ true
is_less x y fx fy h = let e : le_z y x ≡ false = ap (λ z. le_z y z) (sym (to_z-of_z w32 x fx))
    ∙ ap (λ z. le_z z (to_z w32 (of_z w32 x))) (sym (to_z-of_z w32 y fy)) ∙ h in grind (arith, ints)
