-- What a package keeps that dispatch by class tables rests on, said by the rules that it does not break.
use Rattle.std.specs.Prelude.{◌≡◌, ℕ, List, [], ◌++◌, true, false, slice_get, Some}
use Rattle.cjc_world.specs.Bytes.declared.settings.Settings.{Settings}
use Rattle.cjc_world.specs.Bytes.AccessFlags.{is_interface}
use Rattle.cjc_world.specs.Bytes.Format.{FileSpells}
use Rattle.cjc_world.specs.ClassFile.declared.tree.ClassTree.{ClassTree}
use Rattle.cjc_world.specs.ClassFile.ClassFile.{class_file}
use Rattle.cjc_subset.specs.LowerBytecode.declared.method_code.MethodCode.{MethodCode}
use Rattle.cjc_world.specs.ExportFile.declared.tree.ExportTree.{ExportTree}
use Rattle.cjc_world.specs.ExportFile.Writable.{IsWritable}
use Rattle.cjc_world.specs.Classes.{Class, all_classes, class_named}
use Rattle.cjc_world.specs.Files.{Files}
use Rattle.cjc_world.specs.Supertypes.{supertypes, upwards}
use Rattle.cjc_world.specs.Rules.{breaks}
use Rattle.cjc_world.specs.Bytes.Breaks.{Break, Among}
use Rattle.cjc_world.specs.Subtype.{starts}
use Rattle.cjc_subset.specs.Checks.{check_breaks}
use Rattle.cjc_tokens.specs.Members.{all_methods}
use Rattle.cjc_vtable.specs.Calls.{IsOneToOne}
use Rattle.cjc_vtable.specs.Laws.{KeepsRules, KeepsInterfaces, KeepsImported, VirtualCallsAgree, InterfaceCallsAgree}
use Rattle.cjc_vtable.specs.Laws.{ImportedCallsAgree, TokensAreOnce}

-- none of these breaks is of the rule
abbrev pub IsUnbroken : (rule : ℕ) → List Break → Type 0
IsUnbroken rule bs = (b : Break) → Among b bs → b.rank.rule ≡ rule → ⊥

-- The package breaks none of the rules that dispatch rests on. The list's name is that of its file.
pub record BreaksNone (list : List ℕ) (files : Files) (codes : List MethodCode) (settings : Settings) : Type 0 where
  -- 201 to 204, 207 and 208
  pub world : breaks list files ≡ []
  -- flags of methods
  pub flags : IsUnbroken 304 (check_breaks list files codes settings)
  -- access to methods that are overridden
  pub access : IsUnbroken 305 (check_breaks list files codes settings)
  -- methods for those of interfaces
  pub code : IsUnbroken 307 (check_breaks list files codes settings)

-- The files are read ones, in a package whose name is no array's: 91 is [, with which that of an array begins.
pub record AreRead (files : Files) : Type 0 where
  pub package_name : starts 91 files.package_name ≡ false
  -- each class file and each export file is one that some bytes spell
  pub classes : (n : ℕ) (c : ClassTree) → slice_get files.classes n ≡ Some c → (bytes : List ℕ)
      × FileSpells class_file c bytes
  pub exports : (e : ℕ) (t : ExportTree) → slice_get files.exports e ≡ Some t → IsWritable t

-- Export files don't contradict one another: along an imported class that is no interface and its supers,
-- package-visible
-- methods included, one name and descriptor has one virtual token, and one virtual token has one name and descriptor.
-- The
-- tokens of an interface's methods are counted apart from those of its superclass java/lang/Object, from 0.
abbrev pub ExportsAgree : List Class → Type 0
ExportsAgree w = (x : List ℕ) (c : Class) → class_named w x ≡ Some c → c.is_imported ≡ true → is_interface c.flags
    ≡ false → IsOneToOne (c.methods ++ all_methods (upwards (supertypes w c.supers)))

-- A package of read files that breaks none of these rules, and whose export files don't contradict one another.
pub record IsKept (list : List ℕ) (files : Files) (codes : List MethodCode) (settings : Settings) : Type 0 where
  pub unbroken : BreaksNone list files codes settings
  pub read : AreRead files
  pub agree : ExportsAgree (all_classes files)

-- What dispatch rests on.
pub record Keeps (w : List Class) : Type 0 where
  pub rules : KeepsRules w
  pub interfaces : KeepsInterfaces w
  pub imported : KeepsImported w

-- Dispatch by class tables and interface maps is selection by name.
pub record CallsAgree (w : List Class) : Type 0 where
  pub virtual_calls : VirtualCallsAgree w
  pub interface_calls : InterfaceCallsAgree w
  pub imported_calls : ImportedCallsAgree w
  pub tokens : TokensAreOnce w
