-- The operand at a place of bytes, and operands one behind the other.
use Rattle.std.proofs.Common.{◌≡◌, ℕ, ◌+◌, ◌*◌, ◌≤◌, ◌^◌, List, [], ◌∷◌, length, get_or, drop, refl, sym, ap, ◌∙◌}
use Rattle.std.proofs.Common.{arith, Some, ℤ, pos}
use Rattle.std.proofs.lemmas.List.{drop_more}
use Rattle.cjc_capread.specs.Opcodes.{Operand, Byte, Signed1, Signed2, Signed4, Index1, Index2}
use Rattle.cjc_capread.specs.Decode.{operand, operands_of, first_and, put_first, signed}

two_at : (bs : List ℕ) (at : ℕ) → at + 2 ≤ length bs → drop at bs ≡ get_or bs at 0 ∷ get_or bs (at + 1) 0
    ∷ drop (at + 2) bs
two_at bs at le =
    let e : at + 1 + 1 ≡ at + 2 = omega arith in
    drop_more bs at 0 (omega (arith, le)) ∙ ap (λ xs. get_or bs at 0 ∷ xs) (drop_more bs (at + 1) 0 (omega (arith, le))
    ∙ ap (λ n. get_or bs (at + 1) 0 ∷ drop n bs) e)

four_at : (bs : List ℕ) (at : ℕ) → at + 4 ≤ length bs → drop at bs ≡ get_or bs at 0 ∷ get_or bs (at + 1) 0
    ∷ get_or bs (at + 2) 0 ∷ get_or bs (at + 3) 0 ∷ drop (at + 4) bs
four_at bs at le =
    let e : at + 2 + 1 ≡ at + 3 = omega arith in
    let f : at + 2 + 2 ≡ at + 4 = omega arith in
    two_at bs at (omega (arith, le))
    ∙ ap (λ xs. get_or bs at 0 ∷ get_or bs (at + 1) 0 ∷ xs) (two_at bs (at + 2) (omega (arith, le)) ∙ rw (e, f) refl)

pub byte_at : (bs : List ℕ) (at : ℕ) → at + 1 ≤ length bs → operand Byte (drop at bs)
    ≡ Some (record { value = pos (get_or bs at 0); rest = drop (at + 1) bs })
byte_at bs at le = ap (operand Byte) (drop_more bs at 0 (omega (arith, le)))

pub index1_at : (bs : List ℕ) (at : ℕ) → at + 1 ≤ length bs → operand Index1 (drop at bs)
    ≡ Some (record { value = pos (get_or bs at 0); rest = drop (at + 1) bs })
index1_at bs at le = ap (operand Index1) (drop_more bs at 0 (omega (arith, le)))

pub signed1_at : (bs : List ℕ) (at : ℕ) (z : ℤ) → at + 1 ≤ length bs → z ≡ signed 128 (get_or bs at 0)
    → operand Signed1 (drop at bs) ≡ Some (record { value = z; rest = drop (at + 1) bs })
signed1_at bs at z le e = ap (operand Signed1) (drop_more bs at 0 (omega (arith, le)))
    ∙ ap (λ v. Some (record { value = v; rest = drop (at + 1) bs })) (sym e)

pub signed2_at : (bs : List ℕ) (at n : ℕ) (z : ℤ) → at + 2 ≤ length bs → n ≡ 256 * get_or bs at 0 + get_or bs (at + 1) 0
    → z ≡ signed 32768 n
    → operand Signed2 (drop at bs) ≡ Some (record { value = z; rest = drop (at + 2) bs })
signed2_at bs at n z le is e =
    ap (operand Signed2) (two_at bs at le) ∙ ap (λ v. Some (record { value = v; rest = drop (at + 2) bs })) (sym (e
    ∙ ap (signed 32768) is))

pub index2_at : (bs : List ℕ) (at n : ℕ) → at + 2 ≤ length bs → n ≡ 256 * get_or bs at 0 + get_or bs (at + 1) 0
    → operand Index2 (drop at bs) ≡ Some (record { value = pos n; rest = drop (at + 2) bs })
index2_at bs at n le is =
    ap (operand Index2) (two_at bs at le) ∙ ap (λ m. Some (record { value = pos m; rest = drop (at + 2) bs })) (sym is)

pub signed4_at : (bs : List ℕ) (at m n : ℕ) (z : ℤ) → at + 4 ≤ length bs → m ≡ 256 * get_or bs at 0 + get_or bs (at + 1)
    0
    → n ≡ 256 * get_or bs (at + 2) 0 + get_or bs (at + 2 + 1) 0 → z ≡ signed (2 ^ 31) (65536 * m + n)
    → operand Signed4 (drop at bs) ≡ Some (record { value = z; rest = drop (at + 4) bs })
signed4_at bs at m n z le hi lo e =
    let k : at + 2 + 1 ≡ at + 3 = omega arith in
    let lo3 : n ≡ 256 * get_or bs (at + 2) 0 + get_or bs (at + 3) 0 = lo
    ∙ ap (λ i. 256 * get_or bs (at + 2) 0 + get_or bs i 0) k in
    let sum : 65536 * m + n ≡ 16777216 * get_or bs at 0 + 65536 * get_or bs (at + 1) 0 + 256 * get_or bs (at + 2) 0 +
    get_or bs (at + 3) 0 = omega (arith, hi, lo3) in
    ap (operand Signed4) (four_at bs at le) ∙ ap (λ v. Some (record { value = v; rest = drop (at + 4) bs })) (sym (e
    ∙ ap (signed (2 ^ 31)) sum))

-- ---- in a row

pub one_read : (k : Operand) (bs rest : List ℕ) (a : ℤ) → operand k bs ≡ Some (record { value = a; rest = rest })
    → operands_of (k ∷ []) bs ≡ Some (record { values = a ∷ []; rest = rest })
one_read k bs rest a e = ap (λ o. first_and o (operands_of [])) e

pub two_read : (k l : Operand) (bs mid rest : List ℕ) (a b : ℤ) → operand k bs ≡ Some (record { value = a; rest = mid })
    → operand l mid ≡ Some (record { value = b; rest = rest })
    → operands_of (k ∷ l ∷ []) bs ≡ Some (record { values = a ∷ b ∷ []; rest = rest })
two_read k l bs mid rest a b e f = ap (λ o. first_and o (operands_of (l ∷ []))) e
    ∙ ap (put_first a) (one_read l mid rest b f)

pub three_read : (k l m : Operand) (bs mid late rest : List ℕ) (a b c : ℤ)
    → operand k bs ≡ Some (record { value = a; rest = mid }) → operand l mid ≡ Some (record { value = b; rest = late })
    → operand m late ≡ Some (record { value = c; rest = rest }) → operands_of (k ∷ l ∷ m ∷ []) bs
    ≡ Some (record { values = a ∷ b ∷ c ∷ []; rest = rest })
three_read k l m bs mid late rest a b c e f g = ap (λ o. first_and o (operands_of (l ∷ m ∷ []))) e
    ∙ ap (put_first a) (two_read l m mid late rest b c f g)
