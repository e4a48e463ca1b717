-- What the classes of names add, name after name.
use Rattle.std.proofs.Common.{◌≡◌, ℕ, suc, ◌<◌, ◌≤◌, ◌+◌, sym, ap, ◌∙◌, arith, Bool, List, [], length, get_or, drop}
use Rattle.std.proofs.Common.{add-one}
use Rattle.std.specs.Prelude.{Option}
use Rattle.std.proofs.Math.Seq.{drop-cons}
use Rattle.std.proofs.lemmas.Grind.{common_steps}
use Rattle.cjc_world.specs.declared.tables.Above.{Above}
use Rattle.cjc_world.specs.declared.tables.Order.{Order}
use Rattle.cjc_world.specs.Classes.{Class}
use Rattle.cjc_world.specs.Working.Places.{place_named, joined}
use Rattle.cjc_world.specs.Working.Tables.{piece, pieces}
use Rattle.cjc_world.proofs.Joined.{joined-append, joined-nil}

module _ (w : List Class) (order : Order) (listed : Bool) (rows : List (Option Above)) (old now : List ℕ) where
  pub pieces-step : (next : List ℕ) (xs : List (List ℕ)) (i : ℕ) (d x : List ℕ) (place : Option ℕ) → i < length xs
      → x ≡ get_or xs i d → place ≡ place_named w x → next ≡ joined now (piece order listed rows place)
      → joined now (pieces w order listed rows (drop i xs)) ≡ joined old (pieces w order listed rows xs)
      → joined next (pieces w order listed rows (drop (i + 1) xs)) ≡ joined old (pieces w order listed rows xs)
  unfolding pieces
  pieces-step next xs i d x place l is p e kept =
      let y = get_or xs i d in
      let rest = λ (n : ℕ). pieces w order listed rows (drop n xs) in
      ap (λ v. joined v (rest (i + 1))) (e ∙ ap (λ o. joined now (piece order listed rows o)) (p
      ∙ ap (place_named w) is))
      ∙ ap (λ n. joined (joined now (piece order listed rows (place_named w y))) (rest n)) (add-one i)
      ∙ sym (joined-append now (piece order listed rows (place_named w y)) (rest (suc i)))
      ∙ ap (λ zs. joined now (pieces w order listed rows zs)) (sym (drop-cons xs i d l)) ∙ kept

  pub pieces-end : (xs : List (List ℕ)) (i : ℕ) → length xs ≤ i → joined now (pieces w order listed rows (drop i xs))
      ≡ joined old (pieces w order listed rows xs) → now ≡ joined old (pieces w order listed rows xs)
  unfolding pieces
  pieces-end xs i l kept =
      let e : drop i xs ≡ [] = grind (arith, common_steps) in
      sym (joined-nil now) ∙ ap (λ zs. joined now (pieces w order listed rows zs)) (sym e) ∙ kept
