-- Which classes a name stands above, found step by step in any world, also in one with cycles.
use Rattle.std.specs.Prelude.{◌≡◌, ℕ, ◌<◌, List, [], ◌∷◌, length, slice_get, Bool, true, false, not, ◌&&◌, ◌||◌, Option}
use Rattle.std.specs.Prelude.{Some, None, unwrap_or}
use Rattle.std.specs.List.{list_any}
use Rattle.std.specs.Str.{bytes_eq}
use Rattle.cjc_world.specs.declared.circular.Cycles.{Cycles}
use Rattle.cjc_world.specs.Classes.{Class}
use Rattle.cjc_world.specs.Supertypes.{Supertypes, supertypes, stands, stands_by_supers, stands_above, is_below}
use Rattle.cjc_world.specs.Working.Places.{place_named, has_name}
use Rattle.cjc_world.specs.Rules.{throwable}

-- whether the name stands in the tree, or does so on a way by supers alone
abbrev pub standing : (by_supers : Bool) → List ℕ → Supertypes → Bool
standing true name tree = stands_by_supers name tree
standing false name tree = stands name tree

-- the same of one more name, by what is known of the classes so far
abbrev pub name_stands_at : List ℕ → List Bool → List ℕ → Option ℕ → Bool
name_stands_at name known x None = bytes_eq x name
name_stands_at name known x (Some p) = unwrap_or (slice_get known p) false

-- the same by the name alone, of the first class that has it
abbrev pub name_stands : List Class → List ℕ → List Bool → List ℕ → Bool
name_stands w name known x = name_stands_at name known x (place_named w x)

-- the same of at least one of these names
unfoldable pub any_stands : List Class → List ℕ → List Bool → List (List ℕ) → Bool
any_stands w name known xs = list_any (λ x. name_stands w name known x) xs

-- what the next step tells of a class: it has the name, or what is known so far tells it of one that the class lists
abbrev pub class_stands : List Class → (by_supers : Bool) → List ℕ → List Bool → Option Class → Bool
class_stands w by_supers name known None = false
class_stands w by_supers name known (Some c) =
    bytes_eq c.name name || any_stands w name known c.supers || (not by_supers && any_stands w name known c.interfaces)

-- the next step, of all classes
abbrev pub IsStep : List Class → (by_supers : Bool) → List ℕ → (known next : List Bool) → Type 0
IsStep w by_supers name known next = (p : ℕ) → p < length w
    → slice_get next p ≡ Some (class_stands w by_supers name known (slice_get w p))

-- the first step: the classes that have the name
abbrev pub IsBegun : List Class → List ℕ → List Bool → Type 0
IsBegun w name known = (p : ℕ) → p < length w → slice_get known p ≡ Some (has_name name (slice_get w p))

-- all steps
abbrev pub IsDone : List Class → (by_supers : Bool) → List ℕ → List Bool → Type 0
IsDone w by_supers name known = (x : List ℕ) (p : ℕ) → place_named w x ≡ Some p
    → slice_get known p ≡ Some (standing by_supers name (supertypes w (x ∷ [])))

-- Of the class of each name: whether it is its own super, and whether it is below java/lang/Throwable.
pub record AreCycles (w : List Class) (c : Cycles) : Type 0 where
  pub own : (x : List ℕ) (p : ℕ) → place_named w x ≡ Some p → slice_get c.own p ≡ Some (stands_above w x x)
  pub below : (x : List ℕ) (p : ℕ) → place_named w x ≡ Some p → slice_get c.below p ≡ Some (is_below w x throwable)
