-- Packages that break no rule of their class files and export files, whichever of their methods are in int mode.
use Rattle.std.specs.Prelude.{◌≡◌, ◌≤◌, ℕ, All, List, [], length, slice_get, Some}
use Rattle.std.specs.List.{Contains}
use Rattle.cjc_bytes.specs.Breaks.{Break}
use Rattle.cjc_bytes.specs.Descriptor.{IsClassName}
use Rattle.cjc_check_proof.specs.WorldProof.Files.{ExportsAreSound}
use Rattle.cjc_check_proof.specs.TokenProof.Tables.Sound.{export_count}
use Rattle.cjc_check_proof.specs.TokenProof.WrittenCalls.Standing.{AreMethods}
use Rattle.cjc_check_proof.specs.TokenProof.WrittenSends.Named.{CodeNamesAsWritten}
use Rattle.cjc_classes.specs.ClassOrder.Classes.Numbers.{class_count}
use Rattle.cjc_classes.specs.Clinit.Rules.{BreaksImage}
use Rattle.cjc_classes.specs.JvmSemantics.Linked.{Method}
use Rattle.cjc_classes.specs.JvmSemantics.OnePackage.{method_at}
use Rattle.cjc_classes.specs.List.Listed.{ListTree}
use Rattle.cjc_classes.specs.Narrow.Rows.Selected.{near_fields}
use Rattle.cjc_classes.specs.Subset.Checks.{check_breaks}
use Rattle.cjc_classes.specs.Types.Tables.{IsOfPackage}
use Rattle.cjc_classes.specs.Subset.Names.{name_breaks}
use Rattle.cjc_components.specs.Bytecode.PackageCodes.{all_codes}
use Rattle.cjc_components.specs.Bytecode.declared.method_code.MethodCode.{MethodCode}
use Rattle.cjc_components.specs.Package.{LaidMethod, Package, pool}
use Rattle.cjc_narrow_proof.specs.NCode.declared.narrow.NCatch.{NCatch}
use Rattle.cjc_narrow_proof.specs.Selected.Keeps.{IsSpelt}
use Rattle.cjc_shape.specs.LowerJudge.Rules.{has_applets, settings_of}
use Rattle.cjc_shape.specs.LowerMethods.Ready.{IsDecoded}
use Rattle.cjc_tokens.specs.Rules.{token_breaks}
use Rattle.cjc_vtable.specs.Kept.{ExportsAgree}
use Rattle.cjc_world.specs.ClassFile.Code.{CodeTree}
use Rattle.cjc_world.specs.ClassFile.declared.tree.Catch.{Catch}
use Rattle.cjc_world.specs.ClassFile.declared.tree.ClassTree.{ClassTree}
use Rattle.cjc_world.specs.ClassFile.declared.tree.MethodTree.{MethodTree}
use Rattle.cjc_world.specs.Classes.{all_classes}
use Rattle.cjc_world.specs.ExportFile.Writable.{IsWritable}
use Rattle.cjc_world.specs.ExportFile.declared.tree.ExportTree.{ExportTree}
use Rattle.cjc_world.specs.Rules.{breaks}
use Rattle.cjc_shape_proof.specs.Written.Converted.{ExportsArePlain}

-- The package of a list, of read files whose methods have these instructions. It breaks none of 201 to 208, 301 to 310,
-- 401 to 409 and 413. Its export files say of their classes what a platform has, and don't contradict one
-- another.
pub record IsChecked (list : ListTree) (codes : List MethodCode) (p : Package) : Type 0 where
  -- the files: the list names each
  pub package_name : IsClassName (let w = p.files in w.package_name)
  pub classes : (n : ℕ) (c : ClassTree) → (let w = p.files in slice_get w.classes n ≡ Some c) → (bytes : List ℕ)
      × IsSpelt c bytes
  pub written : (n : ℕ) (t : ExportTree) → (let w = p.files in slice_get w.exports n ≡ Some t) → IsWritable t
  pub listed : (let w = p.files in length w.classes ≤ class_count w.lines)
  pub listed_exports : (let w = p.files in length w.exports ≤ export_count w.lines)
  -- the instructions of each method with code
  pub codes_are : codes ≡ all_codes (let w = p.files in w.classes)
  pub of_package : All (IsOfPackage p.files) codes
  pub decoded : (n k : ℕ) (c : ClassTree) (m : MethodTree) (tree : CodeTree)
      → (let w = p.files in slice_get w.classes n ≡ Some c) → slice_get c.methods k ≡ Some m → m.code ≡ Some tree
      → IsDecoded c m tree
  -- 201 to 204, 207 and 208
  pub unbroken : breaks list.name p.files ≡ []
  -- 203, 205 and 206 of instructions and handlers
  pub names : name_breaks p.files codes ≡ []
  -- 301 to 307, 309, 310 and 401 to 409
  pub checks : check_breaks list.name p.files codes (settings_of list) ≡ []
  -- 308
  pub initialisers : (b : Break) → BreaksImage p.files codes b → ⊥
  -- 413
  pub tokens : token_breaks (has_applets list) p.files ≡ []
  pub exports : ExportsAreSound p.files
  pub plain : ExportsArePlain p.files
  pub agree : ExportsAgree (all_classes p.files)

-- So it is, its methods stand in their order, and they name what their class files name: each of their instructions
-- names nothing, or what one of the method's names, and each handler catches what one of the method's does.
pub record IsOfFiles (list : ListTree) (codes : List MethodCode) (p : Package) : Type 0 where
  pub checked : IsChecked list codes p
  pub methods : AreMethods p
  pub names : CodeNamesAsWritten p (near_fields (pool p))
  pub catches : (k : ℕ) (m : LaidMethod) → slice_get p.methods k ≡ Some m → (j : ℕ) (c : NCatch)
      → (let code = m.code in slice_get code.catches j ≡ Some c) → (from : Method)
      × (method_at p.files m.member ≡ Some from)
      × ((h : Catch) × Contains from.catches h × (h.class ≡ c.class))
