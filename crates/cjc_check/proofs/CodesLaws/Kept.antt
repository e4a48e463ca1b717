-- What holds of each item holds of one more, and items in front of others.
use Rattle.std.proofs.Common.{◌≡◌, ℕ, ◌+◌, ◌<◌, ◌≤◌, List, [], ◌∷◌, ◌++◌, length, get_or, refl, sym, ap, ◌∙◌, subst}
use Rattle.std.proofs.Common.{inl, inr, arith, append_assoc, length-append, Result, Ok, Err}
use Rattle.std.proofs.lemmas.Bool.{cases_lt}
use Rattle.std.proofs.lemmas.List.{get_or_append_left}
use Rattle.std.proofs.Math.Seq.{get_or-append_seam}
use Rattle.cjc_check_rules.specs.Codes.{onto}
use Rattle.cjc_check.specs.Codes.Working.Steps.{behind}

pub each_more : {A : Type 0} (P : A → Type 0) (xs : List A) (x : A) → ((k : ℕ) (d : A) → k < length xs
    → P (get_or xs k d)) → P x
    → (k : ℕ) (d : A) → k < length (xs ++ x ∷ []) → P (get_or (xs ++ x ∷ []) k d)
each_more {A} P xs x all one k d less =
    let l = length-append xs (x ∷ []) in
    elim (cases_lt k (length xs)) [
      | inl before ↦ subst P (sym (get_or_append_left xs (x ∷ []) d k before)) (all k d before)
      | inr past ↦ (let same : k ≡ length xs = omega (arith, past, less, l) in
          let at : get_or (xs ++ x ∷ []) k d ≡ x = ap (λ (m : ℕ). get_or (xs ++ x ∷ []) m d) same
          ∙ get_or-append_seam xs x [] d in
          subst P (sym at) one)
    ]

pub each_none : {A : Type 0} (P : A → Type 0) (k : ℕ) (d : A) → k < length {A = A} [] → P (get_or [] k d)
each_none P k d less = absurd (omega (arith, less))

pub behind_none : {A : Type 0} (r : Result (List A) ℕ) → behind [] r ≡ r
behind_none (Ok xs) = refl
behind_none (Err at) = refl

pub behind_more : {A : Type 0} (front : List A) (x : A) (r : Result (List A) ℕ) → behind front (onto x r)
    ≡ behind (front ++ x ∷ []) r
behind_more {A} front x (Ok xs) = ap (λ (ys : List A). Ok ys) (sym (append_assoc front (x ∷ []) xs))
behind_more front x (Err at) = refl
