-- Lists of cells of any kind that are own, or that are each below their like, and what is read of them.
use Rattle.std.proofs.Common.{ℕ, zero, suc, List, [], ◌∷◌, ◌++◌, map, drop, get_or, All}
use Rattle.std.specs.List.{AllZip}
use Rattle.std.proofs.lemmas.List.Elements.{All-nil, All-cons, All-head, All-tail}

module _ {Cell : Type 0} (Own : Cell → Type 0) where
  pub one_own : (x : Cell) → Own x → All Own (x ∷ [])
  one_own x own = All-cons Own x [] own (All-nil Own)

  -- where a cell is missing, another counts
  module _ (missing : Cell) (own : Own missing) where
    pub read_own : (xs : List Cell) (k : ℕ) → All Own xs → Own (get_or xs k missing)
    read_own [] k h = own
    read_own (x ∷ xs) zero h = All-head Own x xs h
    read_own (x ∷ xs) (suc k) h = read_own xs k (All-tail Own x xs h)

    pub all_read_own : (ks : List ℕ) (xs : List Cell) → All Own xs → All Own (map (λ k. get_or xs k missing) ks)
    all_read_own [] xs h = All-nil Own
    all_read_own (k ∷ ks) xs h = All-cons Own (get_or xs k missing) (map (λ i. get_or xs i missing) ks)
        (read_own xs k h) (all_read_own ks xs h)

module _ {Cell : Type 0} (Below : Cell → Cell → Type 0) where
  pub below_same : ((x : Cell) → Below x x) → (xs : List Cell) → AllZip Below xs xs
  below_same same [] = tt
  below_same same (x ∷ xs) = (same x, below_same same xs)

  pub below_append : (xs ys us vs : List Cell) → AllZip Below xs ys → AllZip Below us vs
      → AllZip Below (xs ++ us) (ys ++ vs)
  below_append [] [] us vs h k = k
  below_append [] (y ∷ ys) us vs h k = absurd h
  below_append (x ∷ xs) [] us vs h k = absurd h
  below_append (x ∷ xs) (y ∷ ys) us vs h k = (h.0, below_append xs ys us vs h.1 k)

  pub below_drop : (n : ℕ) (xs ys : List Cell) → AllZip Below xs ys → AllZip Below (drop n xs) (drop n ys)
  below_drop zero xs ys h = h
  below_drop (suc n) [] [] h = tt
  below_drop (suc n) [] (y ∷ ys) h = absurd h
  below_drop (suc n) (x ∷ xs) [] h = absurd h
  below_drop (suc n) (x ∷ xs) (y ∷ ys) h = below_drop n xs ys h.1

  module _ (missing : Cell) (same : Below missing missing) where
    pub read_up : (xs ys : List Cell) (k : ℕ) → AllZip Below xs ys → Below (get_or xs k missing) (get_or ys k missing)
    read_up [] [] k h = same
    read_up [] (y ∷ ys) k h = absurd h
    read_up (x ∷ xs) [] k h = absurd h
    read_up (x ∷ xs) (y ∷ ys) zero h = h.0
    read_up (x ∷ xs) (y ∷ ys) (suc k) h = read_up xs ys k h.1

    pub all_read_up : (ks : List ℕ) (xs ys : List Cell) → AllZip Below xs ys
        → AllZip Below (map (λ k. get_or xs k missing) ks) (map (λ k. get_or ys k missing) ks)
    all_read_up [] xs ys h = tt
    all_read_up (k ∷ ks) xs ys h = (read_up xs ys k h, all_read_up ks xs ys h)
