-- What stands above the classes of a world (Java Virtual Machine Specification, section 5.4): superclasses and
-- superinterfaces over steps, as a relation and as a tree.
use Rattle.std.specs.Prelude.{◌≡◌, ℕ, zero, suc, List, [], ◌∷◌, ◌++◌, length, Bool, true, false, ◌||◌, if◌then◌else◌}
use Rattle.std.specs.Prelude.{Option, Some, None}
use Rattle.std.specs.List.{list_any}
use Rattle.std.specs.Str.{bytes_eq}
use Rattle.cjc_world.specs.Classes.{Class, class_named}

-- The name stands in the list.
pub data Lists (name : List ℕ) : List (List ℕ) → Type 0 where
  foremost : {xs : List (List ℕ)} → Lists name (name ∷ xs)
  after : {x : List ℕ} {xs : List (List ℕ)} → Lists name xs → Lists name (x ∷ xs)

-- The second is a superclass or superinterface of the first, over one step or more. A step goes from the class
-- of a name to a name that its file lists.
pub data Above (w : List Class) : List ℕ → List ℕ → Type 0 where
  directly : {x y : List ℕ} (c : Class) → class_named w x ≡ Some c → Lists y (c.supers ++ c.interfaces) → Above w x y
  onwards : {x y z : List ℕ} (c : Class) → class_named w x ≡ Some c → Lists y (c.supers ++ c.interfaces) → Above w y z
      → Above w x z

-- No class is its own superclass or superinterface over steps.
abbrev pub IsAcyclic : List Class → Type 0
IsAcyclic w = (x : List ℕ) → Above w x x → ⊥

-- Some names in a row, each with its class, that class's supers and its interfaces; a name of no class stands alone.
pub data Supertypes : Type 0 where
  End : Supertypes
  Unknown : (name : List ℕ) (next : Supertypes) → Supertypes
  Known : (class : Class) (supers interfaces : Supertypes) (next : Supertypes) → Supertypes

-- The tree is that of the names in the world. A name on a cycle has none.
pub data AreSupertypes (w : List Class) : List (List ℕ) → Supertypes → Type 0 where
  ends : AreSupertypes w [] End
  unknown_here : {x : List ℕ} {xs : List (List ℕ)} {next : Supertypes} → class_named w x ≡ None
      → AreSupertypes w xs next → AreSupertypes w (x ∷ xs) (Unknown x next)
  known_here : {x : List ℕ} {xs : List (List ℕ)} {c : Class} {supers interfaces next : Supertypes}
      → class_named w x ≡ Some c → AreSupertypes w c.supers supers → AreSupertypes w c.interfaces interfaces
      → AreSupertypes w xs next → AreSupertypes w (x ∷ xs) (Known c supers interfaces next)

-- ---- the tree as a function: where no class stands above itself it is the one of the relation

-- a name at the head of a row: with its class and what stands above that, or alone where it is of no class
abbrev pub known_as : (List (List ℕ) → Supertypes) → List ℕ → Option Class → Supertypes → Supertypes
known_as above name None next = Unknown name next
known_as above name (Some c) next = Known c (above c.supers) (above c.interfaces) next

-- the names in a row, each with its class and what is told to stand above that
abbrev pub in_a_row : List Class → (List (List ℕ) → Supertypes) → List (List ℕ) → Supertypes
in_a_row w above [] = End
in_a_row w above (x ∷ xs) = known_as above x (class_named w x) (in_a_row w above xs)

-- so many steps upwards
unfoldable pub supertypes_within : List Class → ℕ → List (List ℕ) → Supertypes
supertypes_within w zero names = End
supertypes_within w (suc n) names = in_a_row w (supertypes_within w n) names

-- As many steps as there are classes reach all of them, and one more the names of no class.
unfoldable pub supertypes : List Class → List (List ℕ) → Supertypes
supertypes w names = supertypes_within w (suc (length w)) names

-- whether the name stands anywhere in the tree
abbrev pub stands : List ℕ → Supertypes → Bool
stands name End = false
stands name (Unknown x next) = bytes_eq x name || stands name next
stands name (Known c supers interfaces next) = bytes_eq c.name name || stands name supers || stands name interfaces
    || stands name next

-- the tree of what a class lists, empty where there is no class
abbrev pub above_of : List Class → Option Class → Supertypes
above_of w None = End
above_of w (Some c) = supertypes w (c.supers ++ c.interfaces)

-- whether the second name stands above the class of the first
unfoldable pub stands_above : List Class → List ℕ → List ℕ → Bool
stands_above w x y = stands y (above_of w (class_named w x))

-- it does so exactly where it stands above it by the relation
abbrev pub StandsWhereAbove : List Class → Type 0
StandsWhereAbove w = (x y : List ℕ) → (stands_above w x y ≡ true → Above w x y) × (Above w x y
    → stands_above w x y ≡ true)

-- ---- going upwards

-- The classes, each followed by its supers in the order of its file and theirs. One that is reached twice stands twice.
abbrev pub upwards : Supertypes → List Class
upwards End = []
upwards (Unknown name next) = upwards next
upwards (Known c supers interfaces next) = c ∷ upwards supers ++ upwards next

-- whether one of the classes has the name
abbrev pub is_one_named : List Class → List ℕ → Bool
is_one_named cs name = list_any (λ c. bytes_eq c.name name) cs

-- each class once by its name, where it stands first
abbrev pub once : List Class → List Class → List Class
once seen [] = []
once seen (c ∷ cs) = if is_one_named seen c.name then once seen cs else c ∷ once (seen ++ c ∷ []) cs

-- the class of a name and its superclasses
unfoldable pub line : List Class → List ℕ → List Class
line w name = upwards (supertypes w (name ∷ []))

-- whether the name stands in the tree on a way by supers alone, one of no class too
abbrev pub stands_by_supers : List ℕ → Supertypes → Bool
stands_by_supers name End = false
stands_by_supers name (Unknown x next) = bytes_eq x name || stands_by_supers name next
stands_by_supers name (Known c supers interfaces next) = bytes_eq c.name name || stands_by_supers name supers
    || stands_by_supers name next

-- The second is the first, or a superclass of it. Both are names, and some file may have neither.
unfoldable pub is_below : List Class → (sub sup : List ℕ) → Bool
is_below w sub sup = stands_by_supers sup (supertypes w (sub ∷ []))
