-- What stands above a class by superclasses alone, and what files keep to, so that look-ups of members go this way.
use Rattle.std.specs.Prelude.{◌≡◌, ◌⊎◌, ℕ, List, ◌∷◌, ◌++◌, true, false, Some}
use Rattle.cjc_bytes.specs.AccessFlags.{is_interface}
use Rattle.cjc_world.specs.Classes.{Class, class_named}
use Rattle.cjc_world.specs.Supertypes.{Above, IsAcyclic, Lists}
use Rattle.cjc_world.specs.Lookup.{object}

-- the name is the class's, or the class stands above it
abbrev pub Below : List Class → List ℕ → List ℕ → Type 0
Below w x y = (x ≡ y) ⊎ Above w x y

-- The class is that of the name, or a superclass of it over steps.
pub data OnLine (w : List Class) : List ℕ → Class → Type 0 where
  here : {x : List ℕ} {c : Class} → class_named w x ≡ Some c → OnLine w x c
  up : {x s : List ℕ} {d : Class} (c : Class) → class_named w x ≡ Some c → Lists s c.supers → OnLine w s d
      → OnLine w x d

-- It stands in the list.
pub data Has {A : Type 0} (x : A) : List A → Type 0 where
  foremost : {xs : List A} → Has x (x ∷ xs)
  after : {y : A} {xs : List A} → Has x xs → Has x (y ∷ xs)

-- What classes list is of its kind: superclasses are classes and interfaces are interfaces, an interface has no
-- superclass but java/lang/Object, and
-- what a class of an export file lists is of an export file too. No class stands above itself, and each that is no
-- interface has java/lang/Object above it.
pub record IsOrdered (w : List Class) : Type 0 where
  pub acyclic : IsAcyclic w
  pub supers : (x s : List ℕ) (c d : Class) → class_named w x ≡ Some c → Lists s c.supers → class_named w s ≡ Some d
      → is_interface d.flags ≡ false
  pub interfaces : (x i : List ℕ) (c d : Class) → class_named w x ≡ Some c → Lists i c.interfaces
      → class_named w i ≡ Some d → is_interface d.flags ≡ true
  pub only_object : (x s : List ℕ) (c : Class) → class_named w x ≡ Some c → is_interface c.flags ≡ true
      → Lists s c.supers → s ≡ object
  pub abroad : (x y : List ℕ) (c d : Class) → class_named w x ≡ Some c → c.is_imported ≡ true
      → Lists y (c.supers ++ c.interfaces) → class_named w y ≡ Some d → d.is_imported ≡ true
  pub rooted : (x : List ℕ) (c : Class) → class_named w x ≡ Some c → is_interface c.flags ≡ false → (o : Class)
      × (class_named w object ≡ Some o) × OnLine w x o
