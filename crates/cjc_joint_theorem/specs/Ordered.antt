-- Packages whose classes are of one kind to all: what export files say of a class's kind is so, and what classes from
-- outside list is of its kind.
use Rattle.std.specs.Prelude.{◌≡◌, ℕ, List, ◌++◌, Some, slice_get, true, false}
use Rattle.cjc_bytes.specs.AccessFlags.{is_abstract, is_interface}
use Rattle.cjc_world.specs.ClassFile.declared.tree.ClassTree.{ClassTree}
use Rattle.cjc_world.specs.ExportFile.declared.tree.ExportClass.{ExportClass}
use Rattle.cjc_world.specs.ExportFile.declared.tree.ExportTree.{ExportTree}
use Rattle.cjc_world.specs.Classes.{Class, all_classes, class_named}
use Rattle.cjc_world.specs.Files.{Files}
use Rattle.cjc_world.specs.Supertypes.{IsAcyclic, Lists}
use Rattle.cjc_world.specs.Upwards.{IsOrdered}
use Rattle.cjc_joint_proof.specs.Imports.{AreImports}
use Rattle.cjc_joint_proof.specs.Sound.{AreSound}
use Rattle.cjc_joint_proof.specs.Worlds.{AreApartFromOutside, outside_classes}
use Rattle.cjc_joint_theorem.specs.Together.Homes.{joint_world}

-- A class file and what an export file says of its class: an interface or not, abstract or not.
pub record IsOfKind (c : ClassTree) (e : ExportClass) : Type 0 where
  pub interface : is_interface c.flags ≡ is_interface e.flags
  pub abstract_one : is_abstract c.flags ≡ is_abstract e.flags

-- each class of the package that the export file has is such
abbrev pub TellsKinds : Files → ExportTree → Type 0
TellsKinds m t = (n k : ℕ) (e : ExportClass) (c : ClassTree) → slice_get t.classes n ≡ Some e
    → slice_get m.classes k ≡ Some c → c.name ≡ e.name → IsOfKind c e

-- No class of all packages and of what is outside stands above itself. A class from outside lists superclasses that are
-- classes and interfaces that are interfaces, and none of a package of the group.
pub record IsOutsideOrdered (group : List Files) : Type 0 where
  pub acyclic : IsAcyclic (joint_world group)
  pub supers : (n : ℕ) (e : ExportClass) (s : List ℕ) (d : Class) → slice_get (outside_classes group) n ≡ Some e
      → Lists s e.supers → class_named (joint_world group) s ≡ Some d → is_interface d.flags ≡ false
  pub interfaces : (n : ℕ) (e : ExportClass) (i : List ℕ) (d : Class) → slice_get (outside_classes group) n ≡ Some e
      → Lists i e.interfaces → class_named (joint_world group) i ≡ Some d → is_interface d.flags ≡ true
  pub alone : (n : ℕ) (e : ExportClass) (y : List ℕ) (d : Class) → slice_get (outside_classes group) n ≡ Some e
      → Lists y (e.supers ++ e.interfaces) → class_named (joint_world group) y ≡ Some d → d.is_imported ≡ true

-- Packages each of which breaks no rule of classes and names and has its classes in order, whose imports say of classes
-- what is so, and from outside what is of its kind.
pub record AreOrdered (group : List Files) : Type 0 where
  pub sound : AreSound group
  pub outside : AreApartFromOutside group
  pub imports : AreImports group
  pub kinds : (q j k : ℕ) (p m : Files) (t : ExportTree) → slice_get group q ≡ Some p → slice_get p.exports k ≡ Some t
      → slice_get group j ≡ Some m → TellsKinds m t
  pub order : IsOutsideOrdered group
  pub each : (q : ℕ) (p : Files) → slice_get group q ≡ Some p → IsOrdered (all_classes p)
