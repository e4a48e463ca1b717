-- The step of a loop that looks for one that passes.
use Rattle.std.proofs.Common.{◌≡◌, ◌<◌, ◌+◌, ◌||◌, ℕ, Bool, true, false, List, length, drop, get_or, sym, ap, ◌∙◌}
use Rattle.std.specs.List.{list_any}
use Rattle.std.proofs.lemmas.List.{drop_more}

module _ {X : Type 0} (p : X → Bool) (xs : List X) (k : ℕ) (d : X) (total : Bool) (lt : k < length xs)
    (so_far : list_any p (drop k xs) ≡ total) where
  opened : (p (get_or xs k d) || list_any p (drop (k + 1) xs)) ≡ total
  opened = sym (ap (list_any p) (drop_more xs k d lt)) ∙ so_far

  pub any_here : p (get_or xs k d) ≡ true → true ≡ total
  any_here is = sym (ap (λ (b : Bool). b || list_any p (drop (k + 1) xs)) is) ∙ opened

  pub any_later : p (get_or xs k d) ≡ false → list_any p (drop (k + 1) xs) ≡ total
  any_later is = sym (ap (λ (b : Bool). b || list_any p (drop (k + 1) xs)) is) ∙ opened
