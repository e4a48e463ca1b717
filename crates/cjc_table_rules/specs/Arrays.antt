-- The instructions on arrays that the card has, and how arrays are named.
use Rattle.std.specs.Prelude.{◌≡◌, ℕ, List, Some, true, false}
use Rattle.cjc_code.specs.declared.insn.JOp.{JOp}
use Rattle.cjc_code.specs.declared.insn.JOp.TheVariants as jop
use Rattle.cjc_script.specs.Sorts.{Shape, OfClass, OfReferences, shape_name, shape_named}
use Rattle.cjc_world.specs.Classes.{Class}
use Rattle.cjc_world.specs.Subtype.{starts, is_subtype}
use Rattle.cjc_types.specs.Types.{held}
use Rattle.cjc_ncode.specs.ByLabel.{Named}
use Rattle.cjc_shrink.specs.Relation.{IsMadeOf}

-- arraylength, aaload, baload and saload, aastore, bastore and sastore
pub data IsOnArray : JOp → Type 0 where
  arraylength : IsOnArray jop.ArrayLength
  aaload : IsOnArray (jop.ArrayLoad 0x32)
  baload : IsOnArray (jop.ArrayLoad 0x33)
  saload : IsOnArray (jop.ArrayLoad 0x35)
  aastore : IsOnArray (jop.ArrayStore 0x53)
  bastore : IsOnArray (jop.ArrayStore 0x54)
  sastore : IsOnArray (jop.ArrayStore 0x56)

-- The name of a class, whose arrays are named by its descriptor.
pub record IsClassName (name : List ℕ) : Type 0 where
  pub class : shape_named name ≡ Some (OfClass name)
  pub array : shape_named (shape_name (OfReferences name)) ≡ Some (OfReferences name)
  pub no_array : starts 91 name ≡ false

-- Classes of which objects are made are not named as arrays are; of an array of references that is below a named one, both hold what has the name
-- of a class.
pub record ArraysAreNamed (w : List Class) (l : Named) : Type 0 where
  pub objects : (class : List ℕ) → IsMadeOf l (OfClass class) → starts 91 class ≡ false
  pub items : (class item name : List ℕ) (shape : Shape (List ℕ)) → shape_named name ≡ Some shape → held name ≡ Some item → is_subtype w (shape_name (OfReferences class)) name ≡ true → IsClassName class
  pub held_items : (item name : List ℕ) (shape : Shape (List ℕ)) → shape_named name ≡ Some shape → held name ≡ Some item → IsClassName item
