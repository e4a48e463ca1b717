-- What of a package its export file rests on: what its list and its files keep by their formats, and the rules that it
-- does not break.
use Rattle.std.specs.Prelude.{◌≡◌, ◌<◌, ◌^◌, ℕ, [], length, slice_get, true, false, IfSome, FitsSigned, Some}
use Rattle.std.specs.List.{AllByRecursion, list_any}
use Rattle.std.specs.Str.{bytes_eq}
use Rattle.std.specs.Int.{w32}
use Rattle.cjc_world.specs.Bytes.AccessFlags.{is_interface}
use Rattle.cjc_world.specs.ClassFile.declared.tree.ClassTree.{ClassTree}
use Rattle.cjc_world.specs.ClassFile.declared.tree.FieldTree.{FieldTree}
use Rattle.cjc_world.specs.ExportFile.declared.tree.ExportTree.{ExportTree}
use Rattle.cjc_world.specs.ExportFile.Pool.{aid_length}
use Rattle.cjc_world.specs.ExportFile.Members.{as_desc}
use Rattle.cjc_world.specs.ExportFile.ExportFile.{method_count}
use Rattle.cjc_world.specs.ExportFile.Root.{object}
use Rattle.cjc_world.specs.ExportFile.Written.{constants}
use Rattle.cjc_world.specs.ExportFile.Writable.{EachAfter, IsText, IsWritable, MethodStands}
use Rattle.cjc_components.specs.LowerList.Listed.{ListTree}
use Rattle.cjc_world.specs.Classes.{Class, class_at}
use Rattle.cjc_world.specs.Rules.{is_second}
use Rattle.cjc_components.specs.LowerClassOrder.Supers.Supers.{interfaces, superclasses}
use Rattle.cjc_components.specs.LowerTokens.Rules.{FewCells, FewExported, token_breaks}
use Rattle.cjc_components.specs.Package.{Package, has_applets, world}
use Rattle.cjc_components.specs.Exports.{exported_classes}
use Rattle.cjc_components.specs.ExportFile.{export_class, export_of}

-- ---- files by themselves

-- a field of a class file: its flags have two bytes, its texts are texts of the pool, its descriptor is one of a field,
-- and its number has 32 bits
pub record FieldIsRead (f : FieldTree) : Type 0 where
  pub flags : f.flags < 2 ^ 16
  pub name : IsText f.name
  pub desc : IsText f.desc
  pub is_desc : as_desc false f.desc ≡ Some f.desc
  pub constant : IfSome f.constant (FitsSigned w32)

-- a class file
pub record ClassIsRead (c : ClassTree) : Type 0 where
  pub flags : c.flags < 2 ^ 16
  pub name : IsText c.name
  pub superclass : IsText c.superclass
  pub interfaces : AllByRecursion IsText c.interfaces
  pub fields : (k : ℕ) (f : FieldTree) → slice_get c.fields k ≡ Some f → FieldIsRead f

-- the package line of a list: a name that 408 keeps short, an AID of 5 to 16 bytes, and a version of two bytes
pub record ListIsRead (list : ListTree) : Type 0 where
  pub name : IsText list.«package»
  pub aid : aid_length (length list.aid) ≡ Some (length list.aid)
  pub major : list.major < 2 ^ 8
  pub minor : list.minor < 2 ^ 8

-- ---- the package

-- a package whose list and files can be told in an export file, and that breaks none of 202, 401, 406, 413 and 414
pub record IsExportable (p : Package) : Type 0 where
  pub list : ListIsRead p.list
  pub classes : (n : ℕ) (c : ClassTree) → slice_get (let files = p.files in files.classes) n ≡ Some c → ClassIsRead c
  pub exports : (n : ℕ) (t : ExportTree) → slice_get (let files = p.files in files.exports) n ≡ Some t → IsWritable t
  -- 202: no class of the package has the name of an earlier one
  pub once : (n : ℕ) (c : Class) → class_at (world p) false n ≡ Some c → is_second (world p) c ≡ false
  -- 401 and 406
  pub few : FewExported (has_applets p) p.files
  pub cells : FewCells p.files
  -- 413
  pub tokens : token_breaks (has_applets p) p.files ≡ []
  -- 414
  pub entries : length (constants (export_of p)) < 2 ^ 16

-- ---- what of each class is asked for beside that

-- It stands below java/lang/Object, its interfaces can be counted, and so can its methods, each of which can stand
-- behind
-- those before it.
pub record ClassStands (p : Package) (c : Class) : Type 0 where
  -- java/lang/Object is among its superclasses
  pub root : list_any (λ x. bytes_eq x object) (superclasses (world p) c) ≡ true
  -- 403
  pub interfaces : length (interfaces (world p) c) < 2 ^ 8
  pub fields : length c.fields < 2 ^ 16
  pub methods : (let e = export_class p c in length e.methods < 2 ^ 16)
  pub count : (let e = export_class p c in method_count (is_interface e.flags) (length e.methods)
      ≡ Some (length e.methods))
  -- 202, 304 and 413
  pub each : (let e = export_class p c in EachAfter (MethodStands (is_interface e.flags) (length e.methods)) []
      e.methods)

-- Each class that others may name.
abbrev pub ClassesStand : Package → Type 0
ClassesStand p = (k : ℕ) (c : Class) → slice_get (exported_classes p) k ≡ Some c → ClassStands p c
