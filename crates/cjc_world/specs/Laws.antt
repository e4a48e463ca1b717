-- What holds of look-up, selection and subtypes in a world.
use Rattle.std.specs.Prelude.{◌≡◌, ℕ, List, [], ◌∷◌, true, false, Option, Some, None}
use Rattle.cjc_world.specs.declared.found.Found.{Found}
use Rattle.cjc_world.specs.Classes.{Class, class_named}
use Rattle.cjc_world.specs.Supertypes.{line}
use Rattle.cjc_world.specs.Lookup.{first, own_method, find_method}
use Rattle.cjc_world.specs.Subtype.{is_subtype}

-- A way up by superclasses on which no class answers.
pub data Passes (w : List Class) (own : Class → Option Found) : List ℕ → List ℕ → Type 0 where
  arrived : {x : List ℕ} → Passes w own x x
  upwards_by : {x s y : List ℕ} (c : Class) → class_named w x ≡ Some c → c.supers ≡ s ∷ [] → own c ≡ None
      → Passes w own s y → Passes w own x y

-- The line of a class is the class and the line of its superclass.
abbrev pub LineGoesUp : List Class → Type 0
LineGoesUp w = (x s : List ℕ) (c : Class) → class_named w x ≡ Some c → c.supers ≡ s ∷ [] → line w x ≡ c ∷ line w s

-- Selection from a subclass goes through the superclass.
abbrev pub SelectionGoesUp : List Class → Type 0
SelectionGoesUp w = (name desc x y : List ℕ) → Passes w (own_method true name desc) x y
    → first (own_method true name desc) (line w x) ≡ first (own_method true name desc) (line w y)

-- A method that is found from a class is found from a subclass, where no class from the subclass on declares it.
abbrev pub LookupGoesUp : List Class → Type 0
LookupGoesUp w = (name desc x y : List ℕ) (f : Found) → Passes w (own_method false name desc) x y
    → find_method w y name desc ≡ Some f → find_method w x name desc ≡ Some f

-- Every type is a subtype of itself.
abbrev pub IsReflexive : List Class → Type 0
IsReflexive w = (x : List ℕ) → is_subtype w x x ≡ true

-- A subtype of a subtype of a type is a subtype of that type.
abbrev pub IsTransitive : List Class → Type 0
IsTransitive w = (x y z : List ℕ) → is_subtype w x y ≡ true → is_subtype w y z ≡ true → is_subtype w x z ≡ true
