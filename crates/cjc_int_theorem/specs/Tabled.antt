-- Tables and modes by which the methods of a package with code begin.
use Rattle.std.specs.Prelude.{◌≡◌, ℕ, Bool, true, false, List, Some}
use Rattle.cjc_check_proof.specs.WorldProof.Calls.Solid.{IsOwn}
use Rattle.cjc_classes.specs.JvmSemantics.Linked.{Method}
use Rattle.cjc_classes.specs.JvmSemantics.OnePackage.{is_initialiser, method_by}
use Rattle.cjc_classes.specs.Types.declared.state.State.{State}
use Rattle.cjc_components.specs.Bytecode.declared.method_code.MethodCode.{MethodCode}
use Rattle.cjc_int_alike.specs.ByModes.{HasIntTables}
use Rattle.cjc_narrow_proof.specs.Runs.Tables.{HasTables, Tables}
use Rattle.cjc_vtable.specs.Fixpoint.Tables.{HasRow}
use Rattle.cjc_vtable.specs.LowerSubset.Ints.{code_works_on_int}
use Rattle.cjc_world.specs.ClassFile.Code.{CodeTree}
use Rattle.cjc_world.specs.ClassFile.declared.tree.ClassTree.{ClassTree}
use Rattle.cjc_world.specs.ClassFile.declared.tree.MethodTree.{MethodTree}
use Rattle.cjc_world.specs.Files.{Files}
use Rattle.std.specs.List.{Contains}

-- A method of the package with code, which is no initialiser.
pub record IsOwnMethod (files : Files) (m : Method) : Type 0 where
  pub class : ClassTree
  pub method : MethodTree
  pub tree : CodeTree
  pub own : IsOwn files class method
  pub plain : is_initialiser method.name ≡ false
  pub is_code : method.code ≡ Some tree
  pub is : m ≡ method_by class method (Some tree)

-- A method has least tables that break none of the rules of its mode; outside int mode it does not work on int.
pub data IsTabledByMode (files : Files) (codes : List MethodCode) (tables : Tables) (is_int : Method → Bool)
    (m : Method) : Type 0 where
  tabled_int : is_int m ≡ true → (has : HasIntTables files tables m) → Contains codes has.code
      → IsTabledByMode files codes tables is_int m
  tabled_short : is_int m ≡ false → (has : HasTables files tables m) → Contains codes has.code
      → code_works_on_int files has.code ≡ false → IsTabledByMode files codes tables is_int m

-- Each method of the package with code that is no initialiser is such a one, and no other has a row or is in int mode.
pub record AreTabledByModes (files : Files) (codes : List MethodCode) (tables : Tables) (is_int : Method → Bool) :
    Type 0 where
  pub own : (m : Method) → IsOwnMethod files m → IsTabledByMode files codes tables is_int m
  pub only : (m : Method) (at : ℕ) (t : State) → HasRow (tables.types m) at t → IsOwnMethod files m
  pub only_int : (m : Method) → is_int m ≡ true → IsOwnMethod files m
