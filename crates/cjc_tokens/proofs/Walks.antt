-- Walks over classes, one further.
use Rattle.std.proofs.Common.{◌≡◌, ℕ, zero, suc, ◌+◌, ◌<◌, ◌≤◌, refl, sym, ap, ◌∙◌, inl, inr, ⊎_elim, set, List, []}
use Rattle.std.proofs.Common.{◌∷◌, length, drop, get_or}
use Rattle.std.specs.Prelude.{map, slice_get, ◌⊎◌, Option, Some, None}
use Rattle.cjc_world.specs.declared.found.Found.{Found}
use Rattle.cjc_world.specs.declared.class.Known.{Known as AnyClass}
use Rattle.cjc_world.specs.Classes.{Class, class_named}
use Rattle.cjc_world.specs.Supertypes.{Supertypes, End, Unknown, Known, supertypes, AreSupertypes, ends, unknown_here}
use Rattle.cjc_world.specs.Supertypes.{known_here}
use Rattle.cjc_world.specs.Working.Known.{class_of}
use Rattle.cjc_world.specs.Lookup.{first, or_else}
use Rattle.cjc_bytes.proofs.Gets.{drop_next, drop_past}

-- ---- the first that answers

first-next : (f : Class → Option Found) (cs : List AnyClass) (i : ℕ) (k : AnyClass) → i < length cs → k ≡ get_or cs i k
    → first f (map class_of (drop i cs)) ≡ or_else (f (class_of k)) (first f (map class_of (drop (i + 1) cs)))
unfolding first
first-next f cs i k lt is = ap (λ q. first f (map class_of q)) (drop_next cs i k lt is)

pub first-found : (f : Class → Option Found) (cs : List AnyClass) (i : ℕ) (k : AnyClass) (g : Found) → i < length cs
    → k ≡ get_or cs i k → Some g ≡ f (class_of k) → first f (map class_of (drop i cs)) ≡ first f (map class_of cs)
    → Some g ≡ first f (map class_of cs)
first-found f cs i k g lt is e inv = sym (sym inv ∙ first-next f cs i k lt is
    ∙ ap (λ o. or_else o (first f (map class_of (drop (i + 1) cs)))) (sym e))

pub first-passed : (f : Class → Option Found) (cs : List AnyClass) (i : ℕ) (k : AnyClass) → i < length cs
    → k ≡ get_or cs i k → None ≡ f (class_of k) → first f (map class_of (drop i cs)) ≡ first f (map class_of cs)
    → first f (map class_of (drop (i + 1) cs)) ≡ first f (map class_of cs)
first-passed f cs i k lt is e inv = sym (ap (λ o. or_else o (first f (map class_of (drop (i + 1) cs)))) (sym e))
    ∙ sym (first-next f cs i k lt is) ∙ inv

pub first-ended : (f : Class → Option Found) (cs : List AnyClass) (i : ℕ) → length cs ≤ i
    → first f (map class_of (drop i cs)) ≡ first f (map class_of cs) → None ≡ first f (map class_of cs)
unfolding first
first-ended f cs i le inv = sym (ap (λ q. first f (map class_of q)) (drop_past cs i le)) ∙ inv

-- ---- the tree of a name

module _ (w : List Class) (are_supertypes : (xs : List (List ℕ)) → AreSupertypes w xs (supertypes w xs))
    (one_supertypes : (xs : List (List ℕ)) (j k : Supertypes) → AreSupertypes w xs j → AreSupertypes w xs k
    → j ≡ k) where
  pub supertypes-known : (x : List ℕ) (c : Class) → class_named w x ≡ Some c → supertypes w (x ∷ [])
      ≡ Known c (supertypes w c.supers) (supertypes w c.interfaces) End
  supertypes-known x c e = one_supertypes (x ∷ []) (supertypes w (x ∷ [])) (Known c (supertypes w c.supers)
      (supertypes w c.interfaces) End) (are_supertypes (x ∷ [])) (known_here e (are_supertypes c.supers)
      (are_supertypes c.interfaces) ends)

  pub supertypes-unknown : (x : List ℕ) → class_named w x ≡ None → supertypes w (x ∷ []) ≡ Unknown x End
  supertypes-unknown x e = one_supertypes (x ∷ []) (supertypes w (x ∷ [])) (Unknown x End) (are_supertypes (x ∷ []))
      (unknown_here e ends)

-- ---- the item at a place

pub got-same : {A : Type 0} (xs : List A) (i : ℕ) (x t : A) → slice_get xs i ≡ Some t → x ≡ get_or xs i x → x ≡ t
got-same [] i x t e f = cc
got-same (y ∷ xs) zero x t e f = let is : y ≡ t = cc in f ∙ is
got-same (y ∷ xs) (suc i) x t e f = got-same xs i x t e f

pub slice_get-set : {A : Type 0} (xs : List A) (i n : ℕ) (x y : A) → slice_get (set xs i x) n ≡ Some y
    → ((i ≡ n) × (x ≡ y)) ⊎ (slice_get xs n ≡ Some y)
slice_get-set [] i n x y e = inr e
slice_get-set (z ∷ xs) zero zero x y e = inl (refl, cc)
slice_get-set (z ∷ xs) zero (suc n) x y e = inr e
slice_get-set (z ∷ xs) (suc i) zero x y e = inr e
slice_get-set (z ∷ xs) (suc i) (suc n) x y e = ⊎_elim (λ h. inl (ap suc h.0, h.1)) (λ h. inr h) (slice_get-set xs i n x
    y e)
