-- Which package a list and the files that it names are, and which rule that speaks of what is written for it they break
-- first.
use Rattle.std.specs.Prelude.{◌≡◌, ℕ, Bool, false, List, [], map, slice_get, Option, Some}
use Rattle.std.specs.List.{Contains}
use Rattle.cjc_exported.specs.Bytes.Breaks.{Break, Among}
use Rattle.cjc_exported.specs.Bytes.declared.fault.MemberId.{MemberId}
use Rattle.cjc_exported.specs.Bytes.declared.fault.Refusal.{Refusal}
use Rattle.cjc_methods.specs.JvmSemantics.Linked.{Method}
use Rattle.cjc_methods.specs.JvmSemantics.OnePackage.{method_by}
use Rattle.cjc_exported.specs.ClassFile.Code.{CodeTree}
use Rattle.cjc_exported.specs.ClassFile.declared.tree.ClassTree.{ClassTree}
use Rattle.cjc_exported.specs.ClassFile.declared.tree.MethodTree.{MethodTree}
use Rattle.cjc_methods.specs.Bytecode.PackageCodes.{all_codes}
use Rattle.cjc_methods.specs.Bytecode.declared.method_code.MethodCode.{MethodCode}
use Rattle.cjc_exported.specs.Components.Limits.{else_of, form_breaks, of_methods, size_breaks}
use Rattle.cjc_exported.specs.Components.Package.{LaidMethod, Package, pool}
use Rattle.cjc_exported.specs.Components.Written.{IsPackage, is_abstract_at}
use Rattle.cjc_methods.specs.LowerIntPackage.Limits.{word_breaks_by_modes}
use Rattle.cjc_methods.specs.LowerIntPackage.LowerIntMode.declared.modes.Mode.TheVariants as modes
use Rattle.cjc_methods.specs.LowerIntPackage.Modes.{AreModes, Tables}
use Rattle.cjc_methods.specs.LowerIntPackage.Modes as by_modes
use Rattle.cjc_methods.specs.LowerIntPackage.Written.{IsPackageByModes, code_by_mode_at}
use Rattle.cjc_judge.specs.OutOfRange.{IsModeBy}
use Rattle.cjc_judge.specs.Rules.{AreWorld, Breach, IsFirstRefused, OnLevels, files_spelt}
use Rattle.cjc_judge.specs.Spelt.{FileTree}
use Rattle.cjc_methods.specs.List.Listed.{ListTree}
use Rattle.cjc_methods.specs.Narrow.Rows.Selected.{near_fields}
use Rattle.cjc_shape.specs.Prepared.{tested}
use Rattle.cjc_methods.specs.Tokens.Members.{is_initialiser}
use Rattle.cjc_methods.specs.Types.declared.state.State.{State}
use Rattle.cjc_methods.specs.Types.Flow.{body_of}
use Rattle.cjc_methods.specs.Types.Tables.{IsLeastTable, IsMethodOf}
use Rattle.cjc_exported.specs.World.Classes.{all_classes}
use Rattle.cjc_exported.specs.World.Files.{Files}
use Rattle.cjc_exported.specs.World.Order.{method_order}

-- ---- the package

-- Of each method with code the rows are those of its least table.
abbrev pub AreLeast : Files → (Method → List (Option State)) → Type 0
AreLeast files rows =
    (code : MethodCode) (class : ClassTree) (method : MethodTree) (tree : CodeTree)
    → Contains (all_codes files.classes) code → IsMethodOf files code class method tree
    → IsLeastTable (body_of class method tree code.insns) (rows (method_by class method (Some tree)))

-- What the files of a list spell: classes and export files that break none of 201 to 204, 207 and 208, with the least
-- tables of their methods.
pub record IsSpeltBy (list : ListTree) (files : List (List ℕ)) (world : Files) (rows : Method → List (Option State)) :
    Type 0 where
  pub trees : List FileTree
  pub is_world : AreWorld list files trees
  pub world_is : world ≡ files_spelt list trees
  pub least : AreLeast world rows

-- ---- modes

-- No method of these files that is written is in int mode, where `ints` says whether the list has the line `int`.
abbrev pub AreShort : (ints : Bool) → Files → Type 0
AreShort ints files =
    (code : MethodCode) (class : ClassTree) (method : MethodTree) (tree : CodeTree)
    → Contains (all_codes files.classes) code → IsMethodOf files code class method tree
    → is_initialiser method.name ≡ false → IsModeBy ints files (body_of class method tree code.insns) modes.Short

-- The least tables of the methods of these files, and their modes.
pub record HasModes (ints : Bool) (files : Files) (t : Tables) : Type 0 where
  pub least : by_modes.AreLeast files t
  pub modes : AreModes ints files t

-- ---- the package by modes

-- A method by its narrow code, which is that of its mode, whatever its layout.
pub record IsSelected (files : Files) (near : List MemberId) (t : Tables) (m : LaidMethod) : Type 0 where
  pub is_abstract : m.is_abstract ≡ is_abstract_at files m.member
  pub code : m.code ≡ code_by_mode_at files near t m.member

-- The package of a list and its files by the narrow code of its methods, each by its mode, before these are laid out.
pub record IsDraft (list : ListTree) (files : List (List ℕ)) (p : Package) : Type 0 where
  pub tables : Tables
  pub spelt : IsSpeltBy list files p.files tables.types
  pub has : HasModes list.ints p.files tables
  pub by_list : p.list ≡ list
  pub members : map (λ m. m.member) p.methods ≡ method_order (all_classes p.files)
  pub methods : (k : ℕ) (m : LaidMethod) → slice_get p.methods k ≡ Some m
      → IsSelected p.files (near_fields (pool p)) tables m

-- The package of a list and its files, whose methods are laid out, each written by its mode.
pub record IsPackageByModesOf (list : ListTree) (files : List (List ℕ)) (p : Package) : Type 0 where
  pub tables : Tables
  pub spelt : IsSpeltBy list files p.files tables.types
  pub has : HasModes list.ints p.files tables
  pub is_package : IsPackageByModes list p.files (all_codes (let w = p.files in w.classes)) tables p

-- ---- the package without int mode

-- The package of a list and its files, whose methods are laid out, and none of them in int mode.
pub record IsPackageOf (list : ListTree) (files : List (List ℕ)) (p : Package) : Type 0 where
  pub rows : Method → List (Option State)
  pub spelt : IsSpeltBy list files p.files rows
  pub short : AreShort list.ints p.files
  pub is_package : IsPackage list p.files (all_codes (let w = p.files in w.classes)) rows p

-- ---- rules that speak of what is written

-- 417, by the modes of methods; where no method breaks that, 311, 414 and 415; where nothing breaks these, 411 and 416.
pub data BreaksWritten (list : ListTree) (files : List (List ℕ)) (b : Break) : Type 0 where
  of_form : (p : Package) (is : IsDraft list files p)
      → Among b (else_of (of_methods p (word_breaks_by_modes is.tables p)) (form_breaks p)) → BreaksWritten list files b
  of_size : (p : Package) (is : IsPackageByModesOf list files p)
      → of_methods p (word_breaks_by_modes is.tables p) ≡ [] → form_breaks p ≡ [] → Among b (size_breaks p)
      → BreaksWritten list files b

-- The refusal is that of the first rule that the files break, or where they break none, that what is written for them
-- does.
abbrev pub IsRefused : ListTree → List (List ℕ) → Refusal → Type 0
IsRefused list files r = IsFirstRefused (OnLevels (Breach list files tested) (BreaksWritten list files)) r
