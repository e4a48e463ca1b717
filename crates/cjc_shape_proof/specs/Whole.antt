-- A package of read files that breaks no rule, over sound export files, with its tables; and what a type table says of
-- a receiver.
use Rattle.std.specs.Prelude.{◌≡◌, ℕ, List, Some, false, true}
use Rattle.std.specs.List.{list_all}
use Rattle.cjc_classes.specs.JvmSemantics.Linked.{Method}
use Rattle.cjc_classes.specs.JvmSemantics.OnePackage.{is_initialiser, method_by}
use Rattle.cjc_bytes.specs.Descriptor.{IsClassName}
use Rattle.cjc_bytes.specs.declared.fault.MemberId.{MemberId}
use Rattle.cjc_bytes.specs.declared.settings.Settings.{Settings}
use Rattle.cjc_check_proof.specs.WorldProof.Calls.Solid.{IsOwn}
use Rattle.cjc_world.specs.ClassFile.Code.{CodeTree}
use Rattle.cjc_world.specs.ClassFile.declared.tree.ClassTree.{ClassTree}
use Rattle.cjc_world.specs.ClassFile.declared.tree.MethodTree.{MethodTree}
use Rattle.cjc_components.specs.Bytecode.declared.method_code.MethodCode.{MethodCode}
use Rattle.cjc_vtable.specs.Fixpoint.Tables.{HasRow}
use Rattle.cjc_narrow_proof.specs.Laws.Left.{HasLeast}
use Rattle.cjc_narrow_proof.specs.Laws.Unbroken.{IsUnbroken}
use Rattle.cjc_narrow_proof.specs.Runs.Tables.{Tables}
use Rattle.cjc_check_proof.specs.WorldProof.Files.{AreReadFiles, ExportsAreSound}
use Rattle.cjc_narrow_proof.specs.Tables.Calls.{count_of}
use Rattle.cjc_classes.specs.Types.declared.cell.Cell.{Cell}
use Rattle.cjc_classes.specs.Types.declared.cell.Cell.TheVariants.{Refs}
use Rattle.cjc_classes.specs.Types.declared.state.State.{State}
use Rattle.cjc_classes.specs.Types.Flow.{Body}
use Rattle.cjc_classes.specs.Types.Rules.{receiver_class}
use Rattle.cjc_classes.specs.Types.Steps.{operand}
use Rattle.cjc_world.specs.Classes.{all_classes}
use Rattle.cjc_world.specs.Files.{Files}
use Rattle.cjc_world.specs.Subtype.{is_subtype}

-- Each method of the package with code that is no initialiser has its least tables, which break no rule of types and
-- intervals, and each method with a row is such a one.
pub record AreTabled (files : Files) (codes : List MethodCode) (tables : Tables) : Type 0 where
  pub own : (class : ClassTree) (method : MethodTree) (tree : CodeTree) → IsOwn files class method
      → is_initialiser method.name ≡ false → method.code ≡ Some tree
      → HasLeast files codes tables (method_by class method (Some tree))
  pub only : (m : Method) (at : ℕ) (t : State) → HasRow (tables.types m) at t → HasLeast files codes tables m

-- A package of read files that was tested and breaks no rule, over sound export files.
pub record IsWhole (list : List ℕ) (files : Files) (codes : List MethodCode) (settings : Settings) (tables : Tables) :
    Type 0 where
  pub unbroken : IsUnbroken list files codes settings
  pub package_name : IsClassName files.package_name
  pub read : AreReadFiles files
  pub sound : ExportsAreSound files
  pub tabled : AreTabled files codes tables

-- 502: each type that a cell may hold is one of a class.
abbrev pub HoldsFor : Files → (class : List ℕ) → Cell → Type 0
HoldsFor files class cell = (names : List (List ℕ)) → cell ≡ Refs names
    → list_all (λ name. is_subtype (all_classes files) name class) names ≡ true

-- The receiver of a call is of the class that it is called on.
abbrev pub Accepts : Files → Body → (op : ℕ) → MemberId → List Cell → Type 0
Accepts files b op id stack = HoldsFor files (receiver_class (all_classes files) b op id)
    (operand stack (count_of id.desc))
