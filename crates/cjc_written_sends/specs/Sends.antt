-- Which methods a script sends among classes alone: what is left are methods that only interfaces have, and those that
-- are sent by an interface's name.
use Rattle.std.specs.Prelude.{◌≡◌, ℕ, List, Some, None, false, true}
use Rattle.cjc_bytes.specs.AccessFlags.{is_interface}
use Rattle.cjc_bytes.specs.declared.fault.MemberId.{MemberId}
use Rattle.cjc_by_name.specs.OnePackage.{is_initialiser}
use Rattle.cjc_script.specs.Sorts.{Element, Shape, OfClass, OfNumbers, OfReferences, shape_name}
use Rattle.cjc_world.specs.Classes.{Class, class_named}
use Rattle.cjc_world.specs.Kin.{line}
use Rattle.cjc_world.specs.Lookup.{first, own_method}
use Rattle.cjc_world.specs.Subtype.{is_subtype}
use Rattle.cjc_world.specs.declared.found.Found.{Found}

-- an array, or an object of an imported class
pub data IsOutside (w : List Class) : Shape (List ℕ) → Type 0 where
  of_numbers : {element : Element} → IsOutside w (OfNumbers element)
  of_references : {x : List ℕ} → IsOutside w (OfReferences x)
  of_import : {x : List ℕ} (c : Class) → class_named w x ≡ Some c → c.is_imported ≡ true → IsOutside w (OfClass x)

-- The named class is in no file, or the object is not of it, or is an array or of an imported class; or the named class is
-- no interface, and it or a superclass of it has the method, which is no initialiser.
pub data IsSoughtInLine (w : List Class) (kind : Shape (List ℕ)) (id : MemberId) : Type 0 where
  no_class : class_named w id.class ≡ None → IsSoughtInLine w kind id
  no_kind : is_subtype w (shape_name kind) id.class ≡ false → IsSoughtInLine w kind id
  on_import : IsOutside w kind → IsSoughtInLine w kind id
  in_line : (d : Class) (f : Found) → class_named w id.class ≡ Some d → is_interface d.flags ≡ false → is_initialiser id.name ≡ false
      → first (own_method false id.name id.desc) (line w id.class) ≡ Some f → IsSoughtInLine w kind id
