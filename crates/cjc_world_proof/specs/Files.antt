-- Files that were read, a package that breaks no rule of names and types, and export files that say of java/lang and of
-- their classes what a Java Card
-- platform has.
use Rattle.std.specs.Prelude.{◌≡◌, ◌<◌, ℕ, List, [], true, false, slice_get, Some}
use Rattle.std.specs.List.{AllByRecursion}
use Rattle.cjc_bytes.specs.AccessFlags.{is_interface}
use Rattle.cjc_bytes.specs.Descriptor.{IsClassName}
use Rattle.cjc_bytes.specs.Format.{FileSpells}
use Rattle.cjc_bytes.specs.declared.settings.Settings.{Settings}
use Rattle.cjc_jvm_semantics.specs.Effects.{Fault, exception_class}
use Rattle.cjc_world.specs.ClassFile.ClassFile.{class_file}
use Rattle.cjc_world.specs.ClassFile.declared.tree.ClassTree.{ClassTree}
use Rattle.cjc_clinit.specs.Bytecode.declared.method_code.MethodCode.{MethodCode}
use Rattle.cjc_world.specs.ExportFile.Writable.{IsWritable}
use Rattle.cjc_world.specs.ExportFile.declared.tree.ExportClass.{ExportClass}
use Rattle.cjc_world.specs.ExportFile.declared.tree.ExportTree.{ExportTree}
use Rattle.cjc_clinit.specs.Subset.Checks.{check_breaks}
use Rattle.cjc_clinit.specs.Subset.Members.{imports}
use Rattle.cjc_world.specs.Classes.{all_classes, class_named, imported}
use Rattle.cjc_world.specs.Files.{Files}
use Rattle.cjc_world.specs.Supertypes.{is_below}
use Rattle.cjc_world.specs.Lookup.{object}
use Rattle.cjc_world.specs.Rules.{breaks}

-- Each class file is one that some bytes spell, and each export file can be written.
pub record AreReadFiles (files : Files) : Type 0 where
  pub classes : (n : ℕ) (c : ClassTree) → slice_get files.classes n ≡ Some c → (bytes : List ℕ)
      × AllByRecursion (λ b. b < 256) bytes × FileSpells class_file c bytes
  pub exports : (n : ℕ) (t : ExportTree) → slice_get files.exports n ≡ Some t → IsWritable t

-- A class of an export file, no interface, is found by this name.
pub record IsImportedClass (files : Files) (name : List ℕ) : Type 0 where
  pub number : ℕ
  pub class : ExportClass
  pub listed : slice_get (imports files.exports) number ≡ Some class
  pub found : class_named (all_classes files) name ≡ Some (imported number class)
  pub no_interface : is_interface class.flags ≡ false

-- The premise on export files, class by class: names are those of classes; the exceptions of the machine's own and
-- java/lang/Object are classes of export
-- files and no interfaces; and each class there that is no interface is java/lang/Object, or has it among its
-- superclasses over steps.
pub record ExportsAreSound (files : Files) : Type 0 where
  pub names : (n : ℕ) (c : ExportClass) → slice_get (imports files.exports) n ≡ Some c → IsClassName c.name
  pub exceptions : (fault : Fault) → IsImportedClass files (exception_class fault)
  pub root : IsImportedClass files object
  pub roots : (n : ℕ) (c : ExportClass) → slice_get (imports files.exports) n ≡ Some c → is_interface c.flags ≡ false
      → is_below (all_classes files) c.name object ≡ true

-- A package of read files that breaks none of 201 to 204, 207, 208, 301 to 307, 309, 310 and 401 to 409.
pub record IsClean (list : List ℕ) (files : Files) (codes : List MethodCode) (settings : Settings) : Type 0 where
  pub world : breaks list files ≡ []
  pub checks : check_breaks list files codes settings ≡ []
  pub read : AreReadFiles files
  pub sound : ExportsAreSound files
