-- The classes that stand above each by the supers that it lists, and those that list it, by their places.
use Rattle.std.specs.Prelude.{◌≡◌, ℕ, ◌<◌, ◌==◌, List, [], ◌∷◌, ◌++◌, map, length, get_or, set, Bool, Option, Some}
use Rattle.std.specs.Prelude.{None}
use Rattle.std.specs.List.{list_any}
use Rattle.cjc_check_rules.specs.ExportFile.declared.tree.ExportClass.{ExportClass}
use Rattle.cjc_check_index.specs.Imported.Working.Names.{place_from}

-- a place, if any
abbrev pub one_place : Option ℕ → List ℕ
one_place None = []
one_place (Some k) = k ∷ []

-- the places of the first classes of these names
abbrev pub places : List ExportClass → (names : List (List ℕ)) → List ℕ
places classes [] = []
places classes (x ∷ names) = one_place (place_from 0 classes x) ++ places classes names

-- the places of what each class lists as supers
abbrev pub above_of : List ExportClass → List (List ℕ)
above_of classes = map (λ c. places classes c.supers) classes

-- a number is among these
abbrev pub is_in : (n : ℕ) → List ℕ → Bool
is_in n xs = list_any (λ m. m == n) xs

-- a class is put below another
abbrev pub with_edge : (below : ℕ) → List (List ℕ) → (above : ℕ) → List (List ℕ)
with_edge b rows a = set rows a (get_or rows a [] ++ b ∷ [])

-- what stands below each class has it above
pub record AreBelow (above below : List (List ℕ)) : Type 0 where
  pub size : length below ≡ length above
  pub each : (i j : ℕ) → j < length above → is_in i (get_or below j []) ≡ is_in j (get_or above i [])
