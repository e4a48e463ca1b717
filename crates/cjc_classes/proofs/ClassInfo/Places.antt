-- Places of classes, and rows that grow by what stands at each place.
use Rattle.std.proofs.Common.{◌≡◌, ℕ, ◌+◌, ◌<◌, ◌≤◌, ◌∙◌, sym, ap, List, [], ◌∷◌, ◌++◌, length}
use Rattle.std.proofs.Common.{get_or, drop, map, refl, add-one, append_assoc, append-nil, length-append}
use Rattle.std.specs.Prelude.{count_by, is_some, slice_get, option_to_list, Option, Some, None, cond}
use Rattle.std.proofs.lemmas.List.Sums.{sum_by-cons}
use Rattle.cjc_world.specs.Classes.{Class}
use Rattle.cjc_world.specs.Working.Places.{at_places}
use Rattle.cjc_bytes.proofs.Gets.{drop_next, drop_past, drop_suc, drop_behind}

pub length_at_places : (w : List Class) (ps : List ℕ) → length (at_places w ps)
    ≡ count_by (λ p. is_some (slice_get w p)) ps
unfolding at_places
length_at_places w [] = refl
length_at_places w (p ∷ ps) =
    length-append (option_to_list (slice_get w p)) (at_places w ps)
    ∙ ap (λ n. length (option_to_list (slice_get w p)) + n) (length_at_places w ps)
    ∙ ap (λ n. n + count_by (λ p. is_some (slice_get w p)) ps) (one (slice_get w p))
    ∙ sym (sum_by-cons (λ p. cond (is_some (slice_get w p)) 1 0) p ps)
  where
    one : (o : Option Class) → length (option_to_list o) ≡ cond (is_some o) 1 0
    one None = refl
    one (Some c) = refl

-- ---- a row with one more item for each item of a list

module _ {A B : Type 0} (f : A → B) (xs : List A) (k : ℕ) (row all : List B) where
  pub row-next : (x : A) (new : List B) → slice_get xs k ≡ Some x → new ≡ row ++ f x ∷ [] → row ++ map f (drop k xs)
      ≡ all → new ++ map f (drop (k + 1) xs) ≡ all
  row-next x new e more inv =
      ap (λ (r : List B). r ++ map f (drop (k + 1) xs)) more
      ∙ append_assoc row (f x ∷ []) (map f (drop (k + 1) xs))
      ∙ ap (λ n. row ++ f x ∷ map f (drop n xs)) (add-one k)
      ∙ ap (λ (ys : List A). row ++ map f ys) (sym (drop_suc xs k x e))
      ∙ inv

  pub row-end : slice_get xs k ≡ None → row ++ map f (drop k xs) ≡ all → row ≡ all
  row-end e inv = sym (append-nil row) ∙ ap (λ (ys : List A). row ++ map f ys) (sym (drop_behind xs k e)) ∙ inv

-- ---- a row with the pieces of each item of a list

module _ {X Y : Type 0} (pieces : List X → List Y) (one : X → List Y) (none : pieces [] ≡ [])
    (more : (x : X) (xs : List X) → pieces (x ∷ xs) ≡ one x ++ pieces xs) where
  pub pieces-next : (xs : List X) (k : ℕ) (x : X) (row new all : List Y) → k < length xs → x ≡ get_or xs k x → new ≡ row
      ++ one x → row ++ pieces (drop k xs) ≡ all → new ++ pieces (drop (k + 1) xs) ≡ all
  pieces-next xs k x row new all lt is put inv =
      ap (λ (r : List Y). r ++ pieces (drop (k + 1) xs)) put
      ∙ append_assoc row (one x) (pieces (drop (k + 1) xs))
      ∙ ap (λ (ys : List Y). row ++ ys) (sym (more x (drop (k + 1) xs)))
      ∙ ap (λ (ys : List X). row ++ pieces ys) (sym (drop_next xs k x lt is))
      ∙ inv

  pub pieces-end : (xs : List X) (k : ℕ) (row all : List Y) → length xs ≤ k → row ++ pieces (drop k xs) ≡ all
      → row ≡ all
  pieces-end xs k row all le inv =
      sym (append-nil row) ∙ ap (λ (ys : List Y). row ++ ys) (sym none) ∙ ap (λ (ys : List X). row
      ++ pieces ys) (sym (drop_past xs k le)) ∙ inv
