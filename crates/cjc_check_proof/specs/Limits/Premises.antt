-- What of a package its components rest on so that they fit: what its list and its files keep by their formats, and the
-- rules that it does not break.
use Rattle.std.specs.Prelude.{◌≡◌, ◌≤◌, ℕ, [], false, length, slice_get, sum_by, filter, Some, if◌then◌else◌}
use Rattle.std.specs.List.{AllByRecursion}
use Rattle.cjc_bytes.specs.AccessFlags.{is_interface}
use Rattle.cjc_bytes.specs.declared.settings.AppletLine.{AppletLine}
use Rattle.cjc_world.specs.ExportFile.declared.tree.ExportTree.{ExportTree}
use Rattle.cjc_world.specs.ExportFile.Writable.{IsWritable}
use Rattle.cjc_pool.specs.List.Listed.{ListTree}
use Rattle.cjc_world.specs.Classes.{Class}
use Rattle.cjc_world.specs.Order.{class_order}
use Rattle.cjc_tokens.specs.Fields.{is_open_static}
use Rattle.cjc_vtable.specs.declared.table.InterfaceMap.{InterfaceMap}
use Rattle.cjc_vtable.specs.Tables.{table_of}
use Rattle.cjc_ncode.specs.declared.narrow.NInsn.{NInsn}
use Rattle.cjc_pool.specs.Layout.Forms.{HasForm}
use Rattle.cjc_pool.specs.Layout.Sizes.{widest_size}
use Rattle.cjc_components.specs.Package.{LaidMethod, Package, world}
use Rattle.cjc_components.specs.Class.{fields_of, interfaces_of}
use Rattle.cjc_components.specs.Descriptor.{fields_from}
use Rattle.cjc_components.specs.Exports.{exported_classes, open_methods}
use Rattle.cjc_components.specs.Limits.{else_of, form_breaks, size_breaks}
use Rattle.cjc_components.specs.Methods.{handler_count}
use Rattle.cjc_components.specs.Statics.{cell_order}

-- ---- the list

-- AIDs of 5 to 16 bytes, a package name of at most 255 bytes by 408, and at most 255 applet lines by 409
pub record ListIsShort (list : ListTree) : Type 0 where
  pub aid : length list.aid ≤ 16
  pub applets : AllByRecursion (λ (a : AppletLine). length a.aid ≤ 16) list.applets
  pub name : length list.«package» ≤ 255
  pub few_applets : length list.applets ≤ 255

-- ---- classes

-- 403, and tables and maps of at most 255 entries: 413 keeps tokens low. No table is written for an interface.
pub record ClassIsSmall (p : Package) (c : Class) : Type 0 where
  pub interfaces : length (interfaces_of (world p) c) ≤ (if is_interface c.flags then 14 else 15)
  pub public : is_interface c.flags ≡ false → (let t = table_of (world p) c in length t.public ≤ 255)
  pub «package» : is_interface c.flags ≡ false → (let t = table_of (world p) c in length t.«package» ≤ 255)
  pub maps : (let t = table_of (world p) c in AllByRecursion (λ (m : InterfaceMap). length m.index ≤ 255) t.maps)

-- 413 of the static fields, static methods and constructors that Export lists
pub record ExportsFew (p : Package) (c : Class) : Type 0 where
  pub fields : length (filter is_open_static (fields_of p.files c)) ≤ 255
  pub methods : length (open_methods c (length c.fields) c.methods) ≤ 255

-- ---- methods

-- with every jump wide it has no more bytes than its widest count, which 415 keeps low; its instructions have their
-- forms
pub record MethodIsShort (m : LaidMethod) : Type 0 where
  pub size : (let code = m.code in widest_size code.insns ≤ code.widest)
  pub short : (let code = m.code in code.widest ≤ 32767)
  pub forms : (k : ℕ) (i : NInsn) → (let code = m.code in slice_get code.insns k ≡ Some i) → HasForm i

-- ---- static fields

-- Descriptor has a field for each cell
abbrev pub CellsAreDescribed : Package → Type 0
CellsAreDescribed p = length (cell_order p.image) ≤ sum_by (λ (c : Class). length
    (fields_from p c 0 (fields_of p.files c))) (class_order (world p))

-- ---- the package

-- a package that keeps the limits of what is written for it: in its list, classes, methods and components
pub record IsLimited (p : Package) : Type 0 where
  pub list : ListIsShort p.list
  -- the list has at most 128 export files, and they are of their format
  pub few_imports : (let files = p.files in length files.exports ≤ 128)
  pub exports : (n : ℕ) (t : ExportTree) → (let files = p.files in slice_get files.exports n ≡ Some t) → IsWritable t
  -- 402
  pub few_classes : length (class_order (world p)) ≤ 255
  pub classes : (k : ℕ) (c : Class) → slice_get (class_order (world p)) k ≡ Some c → ClassIsSmall p c
  -- 401
  pub few_exported : length (exported_classes p) ≤ 255
  pub exported : (k : ℕ) (c : Class) → slice_get (exported_classes p) k ≡ Some c → ExportsFew p c
  -- 407
  pub few_handlers : sum_by handler_count p.methods ≤ 255
  -- 311, 411 and 414 to 416
  pub limits : else_of (form_breaks p) (size_breaks p) ≡ []
  pub methods : (k : ℕ) (m : LaidMethod) → slice_get p.methods k ≡ Some m → MethodIsShort m
  pub cells : CellsAreDescribed p
