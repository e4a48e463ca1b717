-- What stands above names, by the first of them; and how much that is, so that walks upwards end.
use Rattle.std.proofs.Common.{◌≡◌, ℕ, ◌+◌, ◌<◌, refl, ap, arith, List, [], ◌∷◌}
use Rattle.std.specs.Prelude.{Option, Some, None}
use Rattle.cjc_world.specs.Classes.{Class, class_named}
use Rattle.cjc_world.specs.Supertypes.{Supertypes, End, Unknown, Known, IsAcyclic, ends, unknown_here, known_here}
use Rattle.cjc_world.specs.Supertypes.{supertypes}
use Rattle.cjc_world.proofs.Settled.{supertypes-AreSupertypes, AreSupertypes-one}

-- how many names and classes a tree has
abbrev pub supertypes_size : Supertypes → ℕ
supertypes_size End = 0
supertypes_size (Unknown name next) = 1 + supertypes_size next
supertypes_size (Known c supers interfaces next) = 2 + (supertypes_size supers + supertypes_size next)

module _ (w : List Class) (acyclic : IsAcyclic w) where
  pub supertypes_none : supertypes w [] ≡ End
  supertypes_none = AreSupertypes-one w [] (supertypes w []) End (supertypes-AreSupertypes w acyclic []) ends

  pub supertypes_unknown : (x : List ℕ) (xs : List (List ℕ)) → class_named w x ≡ None → supertypes w (x ∷ xs)
      ≡ Unknown x (supertypes w xs)
  supertypes_unknown x xs e = AreSupertypes-one w (x ∷ xs) (supertypes w (x ∷ xs)) (Unknown x (supertypes w xs))
      (supertypes-AreSupertypes w acyclic (x ∷ xs)) (unknown_here e (supertypes-AreSupertypes w acyclic xs))

  pub supertypes_class : (x : List ℕ) (xs : List (List ℕ)) (c : Class) → class_named w x ≡ Some c
      → supertypes w (x ∷ xs) ≡ Known c (supertypes w c.supers) (supertypes w c.interfaces) (supertypes w xs)
  supertypes_class x xs c e =
      AreSupertypes-one w (x ∷ xs) (supertypes w (x ∷ xs)) (Known c (supertypes w c.supers) (supertypes w c.interfaces)
      (supertypes w xs)) (supertypes-AreSupertypes w acyclic (x ∷ xs))
      (known_here e (supertypes-AreSupertypes w acyclic c.supers) (supertypes-AreSupertypes w acyclic c.interfaces)
      (supertypes-AreSupertypes w acyclic xs))

  -- the rest of names is less, and so is what a class has above it
  pub size_rest : (x : List ℕ) (xs : List (List ℕ)) → supertypes_size (supertypes w xs) < supertypes_size
      (supertypes w (x ∷ xs))
  size_rest x xs = by (class_named w x) (supertypes_unknown x xs) (supertypes_class x xs)
    where
      by : (o : Option Class) → (o ≡ None → supertypes w (x ∷ xs) ≡ Unknown x (supertypes w xs))
          → ((c : Class) → o ≡ Some c → supertypes w (x ∷ xs) ≡ Known c (supertypes w c.supers)
          (supertypes w c.interfaces) (supertypes w xs)) → supertypes_size (supertypes w xs) < supertypes_size
          (supertypes w (x ∷ xs))
      by None f g = let e : supertypes_size (supertypes w (x ∷ xs)) ≡ 1 + supertypes_size (supertypes w xs) =
          ap supertypes_size (f refl) in omega arith
      by (Some c) f g = let e : supertypes_size (supertypes w (x ∷ xs)) ≡ 2 + (supertypes_size (supertypes w c.supers) +
          supertypes_size (supertypes w xs)) = ap supertypes_size (g c refl) in omega arith

  pub size_supers : (x : List ℕ) (xs : List (List ℕ)) (c : Class) → class_named w x ≡ Some c
      → supertypes_size (supertypes w c.supers) < supertypes_size (supertypes w (x ∷ xs))
  size_supers x xs c h = let e : supertypes_size (supertypes w (x ∷ xs)) ≡ 2 + (supertypes_size (supertypes w c.supers)
      + supertypes_size (supertypes w xs)) = ap supertypes_size (supertypes_class x xs c h) in omega arith
