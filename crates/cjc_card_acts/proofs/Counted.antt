-- Operands that are counted from one on.
use Rattle.std.proofs.Common.{◌≡◌, ◌+◌, ◌++◌, ℕ, zero, suc, List, [], ◌∷◌, map, refl, sym, ◌∙◌, ap, append_assoc}
use Rattle.std.proofs.Common.{append-nil, arith}
use Rattle.std.specs.List.{range_with_len}
use Rattle.cjc_frames.specs.declared.acts.Given.{Given}
use Rattle.cjc_frames.specs.declared.acts.Given.TheVariants.{Operand}
use Rattle.cjc_card_acts.specs.Rows.{operands_from}

counted : (k n : ℕ) → operands_from k (suc n) ≡ operands_from k n ++ Operand (k + n) ∷ []
counted k zero = let same : k ≡ k + 0 = omega arith in ap (λ (i : ℕ). Operand i ∷ []) same
counted k (suc n) =
    let same : k + 1 + n ≡ k + suc n = omega arith in
    ap (λ (gs : List Given). Operand k ∷ gs) (counted (k + 1) n
    ∙ ap (λ (i : ℕ). operands_from (k + 1) n ++ Operand i ∷ []) same)

-- none are put
pub operands_none : (words : List Given) (k : ℕ) → words ≡ words ++ operands_from k 0
operands_none words k = sym (append-nil words)

-- one more is put
pub operands_more : (before words more : List Given) (k n : ℕ) → words ≡ before ++ operands_from k n
    → more ≡ words ++ Operand (k + n) ∷ [] → more ≡ before ++ operands_from k (n + 1)
operands_more before words more k n is put =
    let next : n + 1 ≡ suc n = omega arith in
    put ∙ ap (λ (gs : List Given). gs ++ Operand (k + n) ∷ []) is
    ∙ append_assoc before (operands_from k n) (Operand (k + n) ∷ [])
    ∙ ap (λ (gs : List Given). before ++ gs) (sym (counted k n))
    ∙ ap (λ (i : ℕ). before ++ operands_from k i) (sym next)
