-- What a package of a group imports: the export file of a package before, which says what that package's own world has,
-- or one from outside that the group keeps.
use Rattle.std.specs.Prelude.{◌≡◌, ◌<◌, ℕ, List, ◌++◌, Some, slice_get}
use Rattle.cjc_exported.specs.ClassFile.declared.tree.ClassTree.{ClassTree}
use Rattle.cjc_card_semantics.specs.ExportFile.declared.tree.ExportClass.{ExportClass}
use Rattle.cjc_card_semantics.specs.ExportFile.declared.tree.ExportTree.{ExportTree}
use Rattle.cjc_exported.specs.World.Classes.{all_classes}
use Rattle.cjc_exported.specs.World.Files.{Files}
use Rattle.cjc_exported.specs.World.Supertypes.{Above, Lists}
use Rattle.cjc_link_semantics.specs.JvmSemantics.Group.{joint_exports}

-- A class of the export file is one of the package's, and what it lists stands above that.
pub record IsClassOf (m : Files) (e : ExportClass) : Type 0 where
  pub number : ℕ
  pub class : ClassTree
  pub file : slice_get m.classes number ≡ Some class
  pub name : class.name ≡ e.name
  pub above : (y : List ℕ) → Lists y (e.supers ++ e.interfaces) → Above (all_classes m) e.name y

-- each class of the export file is such
abbrev pub IsToldBy : Files → ExportTree → Type 0
IsToldBy m t = (n : ℕ) (e : ExportClass) → slice_get t.classes n ≡ Some e → IsClassOf m e

-- An export file that the package at a place imports: that of a package before, or one from outside.
pub data IsImport (group : List Files) (i : ℕ) (t : ExportTree) : Type 0 where
  of_package : (j : ℕ) (m : Files) → j < i → slice_get group j ≡ Some m → IsToldBy m t → IsImport group i t
  of_outside : (n : ℕ) → slice_get (joint_exports group) n ≡ Some t → IsImport group i t

-- Every export file that a package imports is one of these.
abbrev pub AreImports : List Files → Type 0
AreImports group = (i k : ℕ) (p : Files) (t : ExportTree) → slice_get group i ≡ Some p
    → slice_get p.exports k ≡ Some t → IsImport group i t
