-- Packages that link with one another as they were converted, and what the name of a class stands for on the card when
-- they are loaded together.
use Rattle.std.specs.Prelude.{◌≡◌, ◌<◌, ℕ, List, Some, false, slice_get, true, unwrap_or}
use Rattle.cjc_card_semantics.specs.ExportFile.declared.tree.ExportTree.{ExportTree}
use Rattle.cjc_card_semantics.specs.Machine.Classes.{Class as CardClass, Own, class_named as class_on_card, token_named}
use Rattle.cjc_exported.specs.World.Classes.{Class, class_named}
use Rattle.cjc_exported.specs.World.Files.{Files}
use Rattle.cjc_link_semantics.specs.Components.ExportFile.{export_of}
use Rattle.cjc_link_semantics.specs.Components.Package.{Package, world}
use Rattle.cjc_link_semantics.specs.JvmSemantics.Group.{is_of_group, joint_exports}
use Rattle.cjc_link_semantics.specs.Loaded.{files_of, group_loaded}
use Rattle.cjc_joint_proof.specs.Loading.{group_of}
use Rattle.cjc_joint_proof.specs.Sound.{AreSound}

-- the files of all, as those of a group
abbrev pub files_together : List Package → List Files
files_together packages = files_of (group_of packages)

-- An export file that the package at a place imports: what is written for a package before it, or one of no package of
-- the group.
pub data IsLinked (packages : List Package) (q : ℕ) (t : ExportTree) : Type 0 where
  to_package : (r : ℕ) (e : Package) → r < q → slice_get packages r ≡ Some e → t ≡ export_of e
      → IsLinked packages q t
  to_outside : is_of_group (files_together packages) t.name ≡ false → IsLinked packages q t

-- an export file that the package at a place imports
pub record IsListedBy (packages : List Package) (q k : ℕ) (p : Package) (t : ExportTree) : Type 0 where
  pub member : slice_get packages q ≡ Some p
  pub file : (let files = p.files in slice_get files.exports k ≡ Some t)

-- Packages that break no rule of classes and names, with names of their own: what each imports is what is written for a
-- package before it, or of no package of the group, and then the same for all. No class is listed in two export files
-- from outside, or in one and in a package.
pub record AreLinked (packages : List Package) : Type 0 where
  pub sound : AreSound (files_together packages)
  pub names : (q : ℕ) (p : Package) → slice_get packages q ≡ Some p → (let list = p.list in list.«package»)
      ≡ (let files = p.files in files.package_name)
  pub imports : (q k : ℕ) (p : Package) (t : ExportTree) → IsListedBy packages q k p t → IsLinked packages q t
  pub same : (q k r n : ℕ) (p m : Package) (t u : ExportTree) → IsListedBy packages q k p t
      → IsListedBy packages r n m u → is_of_group (files_together packages) t.name ≡ false → u.name ≡ t.name → u ≡ t
  pub one_file : (j r : ℕ) (t u : ExportTree) (x : List ℕ) (a b : ℕ)
      → slice_get (joint_exports (files_together packages)) j ≡ Some t
      → slice_get (joint_exports (files_together packages)) r ≡ Some u → token_named t.classes x ≡ Some a
      → token_named u.classes x ≡ Some b → r ≡ j
  pub no_own : (j q : ℕ) (t : ExportTree) (p : Package) (c : Class) (x : List ℕ) (a : ℕ)
      → slice_get (joint_exports (files_together packages)) j ≡ Some t → token_named t.classes x ≡ Some a
      → slice_get packages q ≡ Some p → class_named (world p) x ≡ Some c → c.is_imported ≡ true

-- What the name of a class stands for on the card, whoever names it.
abbrev pub class_together : List Package → (name : List ℕ) → CardClass
class_together packages x = unwrap_or (class_on_card (group_loaded (group_of packages)) x) (Own 0 0)
