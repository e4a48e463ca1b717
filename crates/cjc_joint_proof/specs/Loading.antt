-- What imports of loaded packages lead to: an export file of a package of the group to that package's own, by its
-- Export component, and one from outside to itself.
use Rattle.std.specs.Prelude.{map, unwrap_or, ◌≡◌, ℕ, List, Some, None, is_some, slice_get, true}
use Rattle.cjc_card_semantics.specs.CapRead.declared.tree.ExportedClass.{ExportedClass}
use Rattle.cjc_card_semantics.specs.Machine.Classes.{info_at, with_token}
use Rattle.cjc_card_semantics.specs.Machine.Loaded.{Loaded, Part}
use Rattle.cjc_card_semantics.specs.Machine.Operations.{unbound_of}
use Rattle.cjc_card_semantics.specs.ExportFile.declared.tree.ExportClass.{ExportClass}
use Rattle.cjc_card_semantics.specs.ExportFile.declared.tree.ExportMethod.{ExportMethod}
use Rattle.cjc_card_semantics.specs.ExportFile.declared.tree.ExportTree.{ExportTree}
use Rattle.cjc_exported.specs.World.Classes.{Class}
use Rattle.cjc_link_semantics.specs.Components.ExportFile.{export_class}
use Rattle.cjc_link_semantics.specs.Components.Exports.{exported_class, exported_classes}
use Rattle.cjc_link_semantics.specs.Components.Names.{class_offset}
use Rattle.cjc_link_semantics.specs.Components.Package.{Package, has_applets}
use Rattle.cjc_link_semantics.specs.Components.Paired.Naming.{loaded_of}
use Rattle.cjc_token_proof.specs.Tables.Loading.{components}
use Rattle.cjc_link_semantics.specs.Loaded.{Member, group_loaded, package_number, tree_number}

-- a package of the group by itself, with the export files that it imports
abbrev pub alone : Member → Loaded
alone m = loaded_of m.applets m.files m.image m.components

-- A class of an export file of a package, by its token: Export has it at that place, where the package has a class or
-- interface, with its static methods and constructors by their tokens.
pub record IsExported (part : Part) (token : ℕ) (e : ExportClass) : Type 0 where
  pub class : ExportedClass
  pub listed : slice_get part.exports token ≡ Some class
  pub there : is_some (info_at part class.class_offset) ≡ true
  pub methods : (t : ℕ) (m : ExportMethod) → unbound_of e.methods t ≡ Some m → (offset : ℕ)
      × (slice_get class.methods t ≡ Some offset)

-- Export has the classes of the export file by their tokens, and no others.
pub record IsExportOf (t : ExportTree) (part : Part) : Type 0 where
  pub each : (token : ℕ) (e : ExportClass) → with_token t.classes token ≡ Some e → IsExported part token e
  pub no_other : (token : ℕ) → with_token t.classes token ≡ None → slice_get part.exports token ≡ None

-- An export file that a package of the group imports: one of a package of the group, whose Export it describes, or one
-- from outside, which is loaded.
pub data Leads (group : List Member) (t : ExportTree) : Type 0 where
  to_package : (r : ℕ) (part : Part) → package_number group t.name ≡ Some r
      → (let l = group_loaded group in slice_get l.parts r ≡ Some part) → IsExportOf t part → Leads group t
  to_outside : package_number group t.name ≡ None
      → (let l = group_loaded group in slice_get l.trees (tree_number l.trees t.name) ≡ Some t) → Leads group t

-- Each that the package imports is one of these.
abbrev pub AllLead : List Member → Member → Type 0
AllLead group m = (k : ℕ) (t : ExportTree) → (let files = m.files in slice_get files.exports k ≡ Some t)
    → Leads group t

-- a package as a member of a group
abbrev pub member_of : Package → Member
member_of p = record { applets = has_applets p; files = p.files; image = p.image; components = components p }

-- the packages of a group
abbrev pub group_of : List Package → List Member
group_of packages = map member_of packages

-- where the class of a name stands in its package
abbrev pub offset_in : Package → (name : List ℕ) → ℕ
offset_in p name = unwrap_or (class_offset p name) 0

-- Export has each static method and constructor that the export file of the package lists, by its token.
abbrev pub ListsMethods : Package → Type 0
ListsMethods p =
    (k t : ℕ) (c : Class) (m : ExportMethod) → slice_get (exported_classes p) k ≡ Some c
    → (let e = export_class p c in unbound_of e.methods t ≡ Some m) → (offset : ℕ)
    × (let x = exported_class p c in slice_get x.methods t ≡ Some offset)
