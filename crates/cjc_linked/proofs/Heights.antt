-- What stands above names, by the first of them; and how much that is, so that walks upwards end.
use Rattle.std.proofs.Common.{◌≡◌, ℕ, ◌+◌, ◌<◌, refl, ap, arith, List, [], ◌∷◌}
use Rattle.std.specs.Prelude.{Option, Some, None}
use Rattle.cjc_world.specs.Classes.{Class, class_named}
use Rattle.cjc_world.specs.Kin.{Kin, End, Unknown, Known, IsAcyclic, ends, unknown_here, known_here, kin}
use Rattle.cjc_world.proofs.Settled.{kin-IsKin, IsKin-one}

-- how many names and classes a tree has
abbrev pub kin_size : Kin → ℕ
kin_size End = 0
kin_size (Unknown name next) = 1 + kin_size next
kin_size (Known c supers interfaces next) = 2 + (kin_size supers + kin_size next)

module _ (w : List Class) (acyclic : IsAcyclic w) where
  pub kin_none : kin w [] ≡ End
  kin_none = IsKin-one w [] (kin w []) End (kin-IsKin w acyclic []) ends

  pub kin_unknown : (x : List ℕ) (xs : List (List ℕ)) → class_named w x ≡ None → kin w (x ∷ xs) ≡ Unknown x (kin w xs)
  kin_unknown x xs e = IsKin-one w (x ∷ xs) (kin w (x ∷ xs)) (Unknown x (kin w xs)) (kin-IsKin w acyclic (x ∷ xs)) (unknown_here e (kin-IsKin w acyclic xs))

  pub kin_class : (x : List ℕ) (xs : List (List ℕ)) (c : Class) → class_named w x ≡ Some c → kin w (x ∷ xs) ≡ Known c (kin w c.supers) (kin w c.interfaces) (kin w xs)
  kin_class x xs c e =
      IsKin-one w (x ∷ xs) (kin w (x ∷ xs)) (Known c (kin w c.supers) (kin w c.interfaces) (kin w xs)) (kin-IsKin w acyclic (x ∷ xs))
      (known_here e (kin-IsKin w acyclic c.supers) (kin-IsKin w acyclic c.interfaces) (kin-IsKin w acyclic xs))

  -- the rest of names is less, and so is what a class has above it
  pub size_rest : (x : List ℕ) (xs : List (List ℕ)) → kin_size (kin w xs) < kin_size (kin w (x ∷ xs))
  size_rest x xs = by (class_named w x) (kin_unknown x xs) (kin_class x xs)
    where
      by : (o : Option Class) → (o ≡ None → kin w (x ∷ xs) ≡ Unknown x (kin w xs)) → ((c : Class) → o ≡ Some c → kin w (x ∷ xs) ≡ Known c (kin w c.supers) (kin w c.interfaces) (kin w xs)) → kin_size (kin w xs) < kin_size (kin w (x ∷ xs))
      by None f g = let e : kin_size (kin w (x ∷ xs)) ≡ 1 + kin_size (kin w xs) = ap kin_size (f refl) in omega arith
      by (Some c) f g = let e : kin_size (kin w (x ∷ xs)) ≡ 2 + (kin_size (kin w c.supers) + kin_size (kin w xs)) = ap kin_size (g c refl) in omega arith

  pub size_supers : (x : List ℕ) (xs : List (List ℕ)) (c : Class) → class_named w x ≡ Some c → kin_size (kin w c.supers) < kin_size (kin w (x ∷ xs))
  size_supers x xs c h = let e : kin_size (kin w (x ∷ xs)) ≡ 2 + (kin_size (kin w c.supers) + kin_size (kin w xs)) = ap kin_size (kin_class x xs c h) in omega arith
