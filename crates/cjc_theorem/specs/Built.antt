-- Export files of platforms, with those that packages write which were converted over them, one behind the other and
-- side
-- by side (Java Card Virtual Machine Specification 2.2.2, chapter 5).
use Rattle.std.specs.Prelude.{◌≡◌, ℕ, List, [], ◌∷◌, Some, slice_get}
use Rattle.cjc_world.specs.ClassFile.declared.tree.ClassTree.{ClassTree}
use Rattle.cjc_components.specs.ExportFile.{export_of}
use Rattle.cjc_token_proof.specs.List.Listed.{ListTree}
use Rattle.cjc_components.specs.Package.{Package}
use Rattle.cjc_world.specs.ExportFile.declared.tree.ExportClass.{ExportClass}
use Rattle.cjc_world.specs.ExportFile.declared.tree.ExportTree.{ExportTree}
use Rattle.cjc_shape_proof.specs.LowerIntPackage.Limits.{limit_breaks_by_modes}
use Rattle.cjc_shape_proof.specs.LowerJudge.Spelt.{IsRead}
use Rattle.cjc_shape_proof.specs.LowerJudge.declared.judged.Judged.{Judged}
use Rattle.cjc_shape_proof.specs.LowerShape.Prepared.{IsSound}
use Rattle.cjc_shape_proof.specs.LowerShape.Whole.Conversion.{IsPackageByModesOf}
use Rattle.cjc_token_proof.specs.Subset.Members.{imports}
use Rattle.cjc_theorem.specs.FairExports.Fair.{ExportsAreFair, world_of}
use Rattle.cjc_world.specs.Supertypes.{IsAcyclic, Lists}
use Rattle.cjc_world.specs.Upwards.{Has}

-- A conversion writes the package: its list was read, its files break no rule, nor does what is written for it,
-- whichever of its methods are in int mode.
pub record IsWritten (list : ListTree) (files : List (List ℕ)) (judged : Judged) (p : Package) : Type 0 where
  pub read : IsRead list
  pub sound : IsSound list files judged
  pub is_package : IsPackageByModesOf list files p
  pub unbroken : limit_breaks_by_modes is_package.tables p ≡ []

-- No two classes of these files have one name, and none stands above itself. Of the files of a list 202 and 204 say so.
pub record AreDistinct (exports : List ExportTree) : Type 0 where
  pub once : (c d : ExportClass) → Has c (imports exports) → Has d (imports exports) → c.name ≡ d.name → c ≡ d
  pub acyclic : IsAcyclic (world_of exports)

-- The package's list has some of these files, and all that they say of its classes.
pub record StandsOver (p : Package) (all : List ExportTree) : Type 0 where
  pub listed : (t : ExportTree) → Has t (let files = p.files in files.exports) → Has t all
  -- a superclass that its export files name, where one of these files has it, is of a file of its list
  pub complete : (c d : ExportClass) → Has c (let files = p.files in imports files.exports) → Has d (imports all)
      → Lists d.name c.supers → Has d (let files = p.files in imports files.exports)
  -- none of these files has a class of the package, or names one as a superclass
  pub apart : (n : ℕ) (c : ClassTree) → (let files = p.files in slice_get files.classes n ≡ Some c) → (d : ExportClass)
      → Has d (imports all) → (d.name ≡ c.name → ⊥) × (Lists c.name d.supers → ⊥)

-- Some export files that do not contradict one another, as those of a platform, and then those that packages write,
-- each
-- converted over some of the files before it.
pub data AreBuilt : List ExportTree → Type 0 where
  of_platform : {exports : List ExportTree} → ExportsAreFair exports → AreBuilt exports
  and_written : {exports : List ExportTree} {list : ListTree} {files : List (List ℕ)} {judged : Judged} {p : Package}
      → IsWritten list files judged p → StandsOver p exports → AreBuilt exports → AreBuilt (export_of p ∷ exports)
