-- The code's table is the definition's.
use Rattle.std.proofs.Common.{◌≡◌, ℕ, zero, suc, ◌+◌, arith, ⊎_elim, inl, inr, List, [], ◌∷◌, Bool, true, false, map}
use Rattle.std.proofs.Common.{refl, sym, ap, ◌∙◌}
use Rattle.std.specs.Prelude.{Some, slice_get, option_map, ◌⊎◌, ◌&&◌, ◌||◌, ◌==◌, if◌then◌else◌}
use Rattle.std.proofs.lemmas.Option.{slice_get-map}
use Rattle.cjc_card_semantics.specs.Bytecode.Meanings.{known_meaning, meaning}
use Rattle.cjc_card_semantics.specs.Bytecode.Meanings
use Rattle.cjc_card_frame.specs.declared.opcodes.table.TheConstants.{MEANINGS}
use Rattle.cjc_card_frame.specs.declared.opcodes.kinds.Meaning.{Meaning}
use Rattle.cjc_card_frame.specs.Meanings.{is_literal, meaning_of}
use Rattle.cjc_card_semantics.proofs.BytesBools.{and_true, or_cases}
use Rattle.cjc_card_semantics.proofs.BytesNumbers.{number_same}

same_tables : map meaning_of MEANINGS ≡ Meanings.meanings
same_tables = refl

pub row_at : (op : ℕ) → known_meaning (option_map meaning_of (slice_get MEANINGS op)) ≡ meaning op
unfolding meaning
row_at op = ap known_meaning (sym (slice_get-map meaning_of MEANINGS op) ∙ ap (λ rows. slice_get rows op) same_tables)

-- the rows of literals are these
abbrev literals_from : ℕ → List Meaning → Bool
literals_from n [] = true
literals_from n (m ∷ ms) = (if is_literal m then (n == 16) || (n == 17) else true) && literals_from (suc n) ms

two_literals : literals_from 0 MEANINGS ≡ true
two_literals = refl

asked : (t : Bool) (b : Bool) → t ≡ true → (if t then b else true) ≡ true → b ≡ true
asked true b e h = h
asked false b e h = absurd cc

found : (m x : Meaning) → Some m ≡ Some x → m ≡ x
found m x e = cc

literal_in : (ms : List Meaning) (n k : ℕ) (x : Meaning) → literals_from n ms ≡ true → slice_get ms k ≡ Some x
    → is_literal x ≡ true → (n + k ≡ 16) ⊎ (n + k ≡ 17)
literal_in [] n k x t e h = absurd cc
literal_in (m ∷ ms) n zero x t e h =
    let both = and_true (if is_literal m then (n == 16) || (n == 17) else true) (literals_from (suc n) ms) t in
    let is : is_literal m ≡ true = ap is_literal (found m x e) ∙ h in
    ⊎_elim (λ s. inl (let e : n ≡ 16 = number_same n 16 s in omega (arith, e))) (λ s. inr (let e : n
    ≡ 17 = number_same n 17 s in omega (arith, e))) (or_cases (n == 16) (n == 17) (asked (is_literal m) ((n == 16)
    || (n == 17)) is both.0))
literal_in (m ∷ ms) n (suc k) x t e h =
    let both = and_true (if is_literal m then (n == 16) || (n == 17) else true) (literals_from (suc n) ms) t in
    ⊎_elim (λ s. inl (omega (arith, s))) (λ s. inr (omega (arith, s))) (literal_in ms (suc n) k x both.1 e h)

pub literal_at : (op : ℕ) (x : Meaning) → Some x ≡ slice_get MEANINGS op → is_literal x ≡ true → (op ≡ 16) ⊎ (op ≡ 17)
literal_at op x e h =
    ⊎_elim (λ s. inl (omega (arith, s))) (λ s. inr (omega (arith, s))) (literal_in MEANINGS 0 op x two_literals (sym e)
    h)
