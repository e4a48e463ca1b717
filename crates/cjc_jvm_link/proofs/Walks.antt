-- Walks that put what each item adds at the end.
use Rattle.std.proofs.Common.{◌≡◌, ℕ, ◌+◌, ◌<◌, ◌≤◌, sym, ap, ◌∙◌, List, [], ◌∷◌, ◌++◌, length, get_or, take}
use Rattle.std.proofs.lemmas.List.{append_assoc, take_more, take_all}

module _ {A B : Type 0} (F : List A → List B) (one : A → List B) (xs : List A) where
  pub walk_step : ((ys : List A) (y : A) → F (ys ++ y ∷ []) ≡ F ys ++ one y) → (i : ℕ) (x : A) (old now new : List B)
      → i < length xs → x ≡ get_or xs i x
      → now ≡ old ++ F (take i xs) → new ≡ now ++ one x → new ≡ old ++ F (take (i + 1) xs)
  walk_step more i x old now new h is e put =
      put ∙ ap (λ z. z ++ one x) e ∙ append_assoc old (F (take i xs)) (one x)
      ∙ ap (λ z. old ++ z) (sym (more (take i xs) x) ∙ ap F (ap (λ y. take i xs ++ y ∷ []) is
      ∙ sym (take_more xs i x h)))

  pub walk_all : (i : ℕ) (old now : List B) → length xs ≤ i → now ≡ old ++ F (take i xs) → now ≡ old ++ F xs
  walk_all i old now h e = e ∙ ap (λ ys. old ++ F ys) (take_all i xs h)
