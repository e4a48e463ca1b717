-- When the class that a type names is there.
use Rattle.std.specs.Prelude.{◌≡◌, ℕ, List, Some}
use Rattle.cjc_script.specs.Sorts.{Element, Shape, OfClass, OfNumbers, OfReferences}
use Rattle.cjc_world.specs.Classes.{Class, class_named}

-- The class that a type names is there.
pub data IsThere (w : List Class) : Shape (List ℕ) → Type 0 where
  of_class : {class : List ℕ} (c : Class) → class_named w class ≡ Some c → IsThere w (OfClass class)
  of_numbers : {element : Element} → IsThere w (OfNumbers element)
  of_references : {class : List ℕ} (c : Class) → class_named w class ≡ Some c → IsThere w (OfReferences class)
