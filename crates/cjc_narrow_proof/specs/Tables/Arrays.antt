-- The instructions on arrays that the card has, and how classes are named, of whose names those of arrays are made.
use Rattle.std.specs.Prelude.{◌≡◌, ℕ, List, Some}
use Rattle.cjc_bytes.specs.Descriptor.{IsClassName}
use Rattle.cjc_code.specs.declared.insn.JOp.{JOp}
use Rattle.cjc_code.specs.declared.insn.JOp.TheVariants as jop
use Rattle.cjc_code.specs.Jvm as jvm
use Rattle.cjc_script.specs.Sorts.{OfClass}
use Rattle.cjc_world.specs.Classes.{Class, class_named}
use Rattle.cjc_ncode.specs.ByLabel.{Named}
use Rattle.cjc_narrow_proof.specs.Selection.Relation.{IsMadeOf}

-- arraylength, aaload, baload and saload, aastore, bastore and sastore
pub data IsOnArray : JOp → Type 0 where
  arraylength : IsOnArray jop.ArrayLength
  aaload : IsOnArray (jop.ArrayLoad jvm.aaload)
  baload : IsOnArray (jop.ArrayLoad jvm.baload)
  saload : IsOnArray (jop.ArrayLoad jvm.saload)
  aastore : IsOnArray (jop.ArrayStore jvm.aastore)
  bastore : IsOnArray (jop.ArrayStore jvm.bastore)
  sastore : IsOnArray (jop.ArrayStore jvm.sastore)

-- Each class, and each of which something may be there, has the name of a class (Java Virtual Machine Specification,
-- section 4.2.1).
pub record ClassesAreNamed (w : List Class) (l : Named) : Type 0 where
  pub classes : (name : List ℕ) (c : Class) → class_named w name ≡ Some c → IsClassName name
  pub objects : (class : List ℕ) → IsMadeOf l (OfClass class) → IsClassName class
