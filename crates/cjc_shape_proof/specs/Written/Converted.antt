-- Packages that are converted, and what is asked of the export files beside them.
use Rattle.std.specs.Prelude.{◌≡◌, ℕ, List, [], Some, true, false, ◌&&◌, slice_get}
use Rattle.cjc_classes.specs.JvmSemantics.OnePackage.{is_initialiser}
use Rattle.cjc_bytes.specs.AccessFlags.{is_abstract, is_interface, is_private, is_static}
use Rattle.cjc_components.specs.Limits.{form_breaks, of_methods, size_breaks, word_breaks}
use Rattle.cjc_components.specs.Package.{Package, world}
use Rattle.cjc_world.specs.ExportFile.declared.tree.ExportClass.{ExportClass}
use Rattle.cjc_world.specs.ExportFile.declared.tree.ExportMethod.{ExportMethod}
use Rattle.cjc_shape.specs.LowerJudge.declared.judged.Judged.{Judged}
use Rattle.cjc_shape.specs.LowerJudge.Spelt.{IsRead}
use Rattle.cjc_classes.specs.List.Listed.{ListTree}
use Rattle.cjc_shape.specs.Prepared.{IsSound}
use Rattle.cjc_check_proof.specs.WorldProof.Files.{ExportsAreSound}
use Rattle.cjc_classes.specs.Subset.Members.{imports, is_constructor}
use Rattle.cjc_tokens.specs.Members.{is_exposed}
use Rattle.cjc_vtable.specs.Kept.{ExportsAgree}
use Rattle.cjc_shape.specs.Whole.Conversion.{IsPackageOf}
use Rattle.cjc_world.specs.Files.{Files}

-- What rules leave of methods in export files, method by method: none is private beside public or protected, one of an
-- interface is neither private nor static, an initialiser is static, and one that is abstract is neither static,
-- private nor a constructor (Java Virtual Machine Specification, sections 2.9 and 4.6; Java Card 2.2.2, section 5.9).
pub record ExportsArePlain (files : Files) : Type 0 where
  pub visible : (n : ℕ) (c : ExportClass) → slice_get (imports files.exports) n ≡ Some c → (k : ℕ) (m : ExportMethod)
      → slice_get c.methods k ≡ Some m → (is_private m.flags && is_exposed m.flags) ≡ false
  pub interfaces : (n : ℕ) (c : ExportClass) → slice_get (imports files.exports) n ≡ Some c → is_interface c.flags
      ≡ true → (k : ℕ) (m : ExportMethod) → slice_get c.methods k ≡ Some m → (is_private m.flags ≡ false)
      × (is_static m.flags ≡ false)
  pub initialisers : (n : ℕ) (c : ExportClass) → slice_get (imports files.exports) n ≡ Some c
      → (k : ℕ) (m : ExportMethod) → slice_get c.methods k ≡ Some m → is_initialiser m.name ≡ true
      → is_static m.flags ≡ true
  pub abstracts : (n : ℕ) (c : ExportClass) → slice_get (imports files.exports) n ≡ Some c → (k : ℕ)
      (m : ExportMethod) → slice_get c.methods k ≡ Some m → is_abstract m.flags ≡ true
      → (is_static m.flags ≡ false) × (is_private m.flags ≡ false) × (is_constructor m.name ≡ false)

-- The package of a list that was read and of its files, none of whose methods is in int mode. It breaks no rule: none
-- of its files, neither 417, 311, 414 and 415, nor 411 and 416. Its export files say of their classes what a platform
-- has, and don't contradict one another.
pub record IsConverted (list : ListTree) (files : List (List ℕ)) (judged : Judged) (p : Package) : Type 0 where
  pub read : IsRead list
  pub sound : IsSound list files judged
  pub is_package : IsPackageOf list files p
  pub words : of_methods p (word_breaks p) ≡ []
  pub forms : form_breaks p ≡ []
  pub sizes : size_breaks p ≡ []
  pub exports : ExportsAreSound p.files
  pub plain : ExportsArePlain p.files
  pub agree : ExportsAgree (world p)
