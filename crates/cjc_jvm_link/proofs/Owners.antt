-- The class at a number among those of all export files.
use Rattle.std.proofs.Common.{◌≡◌, ℕ, suc, ◌+◌, ◌-◌, ◌<◌, ◌≤◌, sym, ap, ◌∙◌, arith, List, ◌++◌}
use Rattle.std.proofs.Common.{length, get_or, drop}
use Rattle.std.specs.Prelude.{slice_get}
use Rattle.std.specs.List.{flat_map}
use Rattle.std.proofs.Math.Seq.{drop-cons}
use Rattle.cjc_world.proofs.BytesGets.{get_front, get_back}

-- ---- in lists of lists

module _ {A B : Type 0} (f : A → List B) (xs : List A) (i : ℕ) (x : A) (k : ℕ) (inside : i < length xs) (is : x
    ≡ get_or xs i x) where
  from_here : flat_map f (drop i xs) ≡ f x ++ flat_map f (drop (i + 1) xs)
  from_here = let e : suc i ≡ i + 1 = omega arith in ap (flat_map f) (drop-cons xs i x inside)
      ∙ ap (λ y. f y ++ flat_map f (drop (suc i) xs)) (sym is) ∙ ap (λ n. f x ++ flat_map f (drop n xs)) e

  pub found_here : k < length (f x) → slice_get (flat_map f (drop i xs)) k ≡ slice_get (f x) k
  found_here h = ap (λ ys. slice_get ys k) from_here ∙ get_front (f x) (flat_map f (drop (i + 1) xs)) k h

  pub found_behind : length (f x) ≤ k → slice_get (flat_map f (drop i xs)) k ≡ slice_get (flat_map f (drop (i + 1) xs))
      (k - length (f x))
  found_behind h = ap (λ ys. slice_get ys k) from_here ∙ get_back (f x) (flat_map f (drop (i + 1) xs)) k h
