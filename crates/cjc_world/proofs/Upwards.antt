-- Look-up and selection from a subclass.
use Rattle.std.proofs.Common.{◌≡◌, ℕ, refl, ap, ◌∙◌, true, false, List, [], ◌∷◌, ◌++◌}
use Rattle.std.specs.Prelude.{Option, Some, None}
use Rattle.std.proofs.lemmas.List.{append-nil}
use Rattle.cjc_world.specs.declared.found.Found.{Found}
use Rattle.cjc_world.specs.Classes.{Class, class_named}
use Rattle.cjc_world.specs.Supertypes.{supertypes, upwards, line, IsAcyclic}
use Rattle.cjc_world.specs.Interfaces.{gathered, known}
use Rattle.cjc_world.specs.Lookup.{or_else, first, own_method, find_method}
use Rattle.cjc_world.specs.Laws.{arrived, upwards_by, LineGoesUp, SelectionGoesUp, LookupGoesUp}
use Rattle.cjc_world.proofs.Settled.{supertypes-known}
use Rattle.cjc_world.proofs.Rising.{first-append, known-append}

module _ (w : List Class) (acyclic : IsAcyclic w) where
  pub line_goes_up : LineGoesUp w
  unfolding line
  line_goes_up x s c e one =
      ap upwards (supertypes-known w acyclic x c e) ∙ append-nil (c ∷ upwards (supertypes w c.supers))
      ∙ ap (λ names. c ∷ upwards (supertypes w names)) one

  through : (own : Class → Option Found) (x s : List ℕ) (c : Class) → class_named w x ≡ Some c → c.supers ≡ s ∷ []
      → own c ≡ None → first own (line w x) ≡ first own (line w s)
  unfolding first
  through own x s c e one none = ap (first own) (line_goes_up x s c e one) ∙ ap (λ o. or_else o (first own (line w s)))
      none

  pub selection_goes_up : SelectionGoesUp w
  selection_goes_up name desc x y arrived = refl
  selection_goes_up name desc x y (upwards_by {s = s} c e one none way) = through (own_method true name desc) x s c e
      one none ∙ selection_goes_up name desc s y way

  module _ (own : Class → Option Found) where
    rest : Class → Option Found
    rest c = first own (known (gathered true (supertypes w c.interfaces)))

    interfaces_through : (x s : List ℕ) (c : Class) → class_named w x ≡ Some c → c.supers ≡ s ∷ []
        → first own (known (gathered false (supertypes w (x ∷ []))))
        ≡ or_else (first own (known (gathered false (supertypes w (s ∷ []))))) (rest c)
    unfolding gathered rest
    interfaces_through x s c e one =
        ap (λ k. first own (known (gathered false k))) (supertypes-known w acyclic x c e)
        ∙ ap (λ is. first own (known is)) (append-nil (gathered false (supertypes w c.supers)
        ++ gathered true (supertypes w c.interfaces) ++ []) ∙ append-nil (gathered false (supertypes w c.supers)
        ++ gathered true (supertypes w c.interfaces)))
        ∙ ap (first own) (known-append (gathered false (supertypes w c.supers))
        (gathered true (supertypes w c.interfaces)))
        ∙ first-append own (known (gathered false (supertypes w c.supers)))
        (known (gathered true (supertypes w c.interfaces)))
        ∙ ap (λ names. or_else (first own (known (gathered false (supertypes w names))))
        (first own (known (gathered true (supertypes w c.interfaces))))) one

    or_else_more : (a b r : Option Found) (f : Found) → or_else a b ≡ Some f → or_else a (or_else b r) ≡ Some f
    or_else_more (Some a) b r f e = e
    or_else_more None (Some b) r f e = e
    or_else_more None None r f e = cc

    found_through : (x s : List ℕ) (c : Class) (f : Found) → class_named w x ≡ Some c → c.supers ≡ s ∷ [] → own c ≡ None
        → or_else (first own (line w s)) (first own (known (gathered false (supertypes w (s ∷ []))))) ≡ Some f
        → or_else (first own (line w x)) (first own (known (gathered false (supertypes w (x ∷ []))))) ≡ Some f
    found_through x s c f e one none found =
        ap (λ o. or_else o (first own (known (gathered false (supertypes w (x ∷ [])))))) (through own x s c e one none)
        ∙ ap (λ o. or_else (first own (line w s)) o) (interfaces_through x s c e one)
        ∙ or_else_more (first own (line w s)) (first own (known (gathered false (supertypes w (s ∷ []))))) (rest c) f
        found

  pub lookup_goes_up : LookupGoesUp w
  unfolding find_method
  lookup_goes_up name desc x y f arrived e = e
  lookup_goes_up name desc x y f (upwards_by {s = s} c g one none way) e = found_through (own_method false name desc) x
      s c f g one none (lookup_goes_up name desc s y f way e)
