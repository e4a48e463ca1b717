-- The cases of a table, one after the other.
use Rattle.std.proofs.Common.{◌≡◌, ℕ, ◌+◌, ◌<◌, ◌≤◌, sym, ap, ◌∙◌, List, [], ◌∷◌, ◌++◌, length, get_or, drop}
use Rattle.std.proofs.Common.{append_assoc, append-nil}
use Rattle.std.specs.Prelude.{ℤ, pos, ◌+ℤ◌}
use Rattle.std.proofs.Math.IntN.{+ℤ_assoc}
use Rattle.std.proofs.lemmas.List.{drop_all}
use Rattle.cjc_ncode.proofs.BytesGets.{from_index}
use Rattle.cjc_ncode.specs.declared.narrow.NCase.{NCase}
use Rattle.cjc_ncode.specs.IntCode.IntCode.{table_cases}

one_on : (low : ℤ) (k : ℕ) → (low +ℤ pos k) +ℤ pos 1 ≡ low +ℤ pos (k + 1)
one_on low k = +ℤ_assoc low (pos k) (pos 1)

pub table_next : (place : ℕ → ℕ) (cases : List NCase) (low value : ℤ) (k : ℕ) (targets : List ℕ) (d : ℕ)
    (total : List NCase) → k < length targets → value ≡ low +ℤ pos k
    → cases ++ table_cases place (low +ℤ pos k) (drop k targets) ≡ total
    → (cases ++ record { value = value; target = place (get_or targets k d) } ∷ [])
    ++ table_cases place (low +ℤ pos (k + 1)) (drop (k + 1) targets) ≡ total
table_next place cases low value k targets d total lt is so_far =
    let c : ℤ → NCase = λ z. record { value = z; target = place (get_or targets k d) } in
    append_assoc cases (c value ∷ []) (table_cases place (low +ℤ pos (k + 1)) (drop (k + 1) targets))
    ∙ ap (λ (z : ℤ). cases ++ c z ∷ table_cases place (low +ℤ pos (k + 1)) (drop (k + 1) targets)) is
    ∙ ap (λ (z : ℤ). cases ++ c (low +ℤ pos k) ∷ table_cases place z (drop (k + 1) targets)) (sym (one_on low k))
    ∙ ap (λ (rest : List ℕ). cases ++ table_cases place (low +ℤ pos k) rest) (sym (from_index targets k d lt))
    ∙ so_far

pub table_end : (place : ℕ → ℕ) (cases : List NCase) (low : ℤ) (k : ℕ) (targets : List ℕ) (total : List NCase)
    → length targets ≤ k → cases ++ table_cases place (low +ℤ pos k) (drop k targets) ≡ total → cases ≡ total
table_end place cases low k targets total le so_far =
    sym (append-nil cases)
    ∙ ap (λ (rest : List ℕ). cases ++ table_cases place (low +ℤ pos k) rest) (sym (drop_all k targets le)) ∙ so_far
