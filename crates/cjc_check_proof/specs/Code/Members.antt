-- What the keys of a pool name, by the files of the package.
use Rattle.std.specs.Prelude.{◌≡◌, ℕ, zero, suc, ◌+◌, ◌<◌, ◌==◌, List, [], ◌∷◌, length, slice_get, Some, None, Bool}
use Rattle.std.specs.Prelude.{true, false}
use Rattle.std.specs.List.{AllByRecursion, find, list_any}
use Rattle.cjc_bytes.specs.declared.fault.MemberId.{MemberId}
use Rattle.cjc_bytes.specs.AccessFlags.{is_interface, is_static}
use Rattle.cjc_world.specs.ClassFile.declared.tree.FieldTree.{FieldTree}
use Rattle.cjc_token_proof.specs.CardSemantics.Machine.Classes.{External}
use Rattle.cjc_world.specs.ExportFile.declared.tree.ExportClass.{ExportClass}
use Rattle.cjc_world.specs.ExportFile.declared.tree.ExportField.{ExportField}
use Rattle.cjc_world.specs.ExportFile.declared.tree.ExportMethod.{ExportMethod}
use Rattle.cjc_world.specs.ExportFile.declared.tree.ExportTree.{ExportTree}
use Rattle.cjc_world.specs.ExportFile.Supers.{is_virtual}
use Rattle.cjc_check_rules.specs.Members.{is_unbound}
use Rattle.cjc_check_rules.specs.PoolEntries.{names_member}
use Rattle.cjc_pool.specs.Clinit.Image.{field_id}
use Rattle.cjc_tokens.specs.Fields.{is_constant}
use Rattle.cjc_tokens.specs.Members.{is_initialiser}
use Rattle.cjc_world.specs.declared.found.Found.{Found}
use Rattle.cjc_world.specs.declared.image.ArrayCell.{ArrayCell}
use Rattle.cjc_world.specs.declared.image.StaticImage.{StaticImage}
use Rattle.cjc_world.specs.declared.image.ValueCell.{ValueCell}
use Rattle.cjc_world.specs.Classes.{Class}
use Rattle.cjc_world.specs.Lookup.{find_field, find_method, member_at}
use Rattle.cjc_world.specs.Order.{class_order, method_order}
use Rattle.cjc_ncode.specs.declared.narrow.PoolKey.{PoolKey}
use Rattle.cjc_ncode.specs.declared.narrow.PoolKey.TheVariants as keys
use Rattle.cjc_ncode.specs.PoolOrder.{same_member}
use Rattle.cjc_ncode.specs.Lowering.Naming.{entry_of}
use Rattle.cjc_components.specs.Package.{Package, pool, world}
use Rattle.cjc_components.specs.Class.{fields_of}
use Rattle.cjc_components.specs.Names.{class_at, names, virtual_token}
use Rattle.cjc_components.specs.Statics.{cell_order, size_of_field, value_bytes}
use Rattle.cjc_token_proof.specs.Components.Whole.{exports_of, whole}

-- a class or interface of the package has this name
pub record IsOwnClass (p : Package) (name : List ℕ) (c : Class) : Type 0 where
  pub place : ℕ
  pub there : slice_get (class_order (world p)) place ≡ Some c
  pub named : c.name ≡ name

-- An instance field of the package, named by the class that declares it.
pub record IsOwnField (p : Package) (f : MemberId) : Type 0 where
  pub class : Class
  pub place : ℕ
  pub tree : FieldTree
  pub own : IsOwnClass p f.class class
  pub there : slice_get (fields_of p.files class) place ≡ Some tree
  pub is_instance : is_static tree.flags ≡ false
  pub found : find_field (world p) f.class f.name f.desc ≡ Some (member_at class place)

-- A method of a class of the package, named by a class of the package.
pub record IsOwnMethod (p : Package) (m : MemberId) : Type 0 where
  pub class : Class
  pub member : Found
  pub place : ℕ
  pub own : IsOwnClass p m.class class
  pub there : slice_get (method_order (world p)) place ≡ Some member
  pub found : find_method (world p) m.class m.name m.desc ≡ Some member

-- Each cell of the image has the bytes of its group: two of a reference, those of its value of a number.
pub record CellsFit (image : StaticImage) : Type 0 where
  pub arrays : AllByRecursion (λ (a : ArrayCell). size_of_field a.field ≡ 2) image.arrays
  pub nulls : AllByRecursion (λ (f : MemberId). size_of_field f ≡ 2) image.nulls
  pub others : AllByRecursion (λ (v : ValueCell). length (value_bytes v) ≡ size_of_field v.field) image.others
  pub some : AllByRecursion (λ (f : MemberId). 0 < size_of_field f) (cell_order image)

-- A static field of the package that is no constant, named by the class that declares it, with its cell.
pub record IsOwnCell (p : Package) (f : MemberId) : Type 0 where
  pub class : Class
  pub place : ℕ
  pub tree : FieldTree
  pub own : IsOwnClass p f.class class
  pub there : slice_get (fields_of p.files class) place ≡ Some tree
  pub is_static : is_static tree.flags ≡ true
  pub is_no_constant : is_constant tree ≡ false
  pub is : field_id class.name tree ≡ f
  pub cells : CellsFit p.image
  pub has_cell : list_any (λ (g : MemberId). same_member g f) (cell_order p.image) ≡ true

-- ---- of imported classes

-- how many classes the export files before this one have
abbrev pub classes_before : (file : ℕ) → List ExportTree → ℕ
classes_before zero trees = 0
classes_before (suc file) [] = 0
classes_before (suc file) (t ∷ trees) = length t.classes + classes_before file trees

-- A class of an export file: the first of its name, of no class of the package, and the first of its token in its file.
pub record IsImportedClass (p : Package) (name : List ℕ) (c : ExportClass) : Type 0 where
  pub file : ℕ
  pub tree : ExportTree
  pub place : ℕ
  pub is_tree : slice_get (exports_of p) file ≡ Some tree
  pub is_class : slice_get tree.classes place ≡ Some c
  pub named : class_at p name ≡ External file c.token
  pub first : find (λ (d : ExportClass). d.token == c.token) tree.classes ≡ Some c

-- a member of an imported class, by the number of the class among those of all export files
abbrev pub imported_member : (file place member : ℕ) → List ExportTree → Found
imported_member file place member trees = record {
  imported = true;
  class = classes_before file trees + place;
  member = member;
}

-- A static method or a constructor of an imported class.
pub record IsImportedMethod (p : Package) (m : MemberId) : Type 0 where
  pub class : ExportClass
  pub of : IsImportedClass p m.class class
  pub place : ℕ
  pub method : ExportMethod
  pub there : slice_get class.methods place ≡ Some method
  pub is_unbound : is_unbound method ≡ true
  pub is_no_initialiser : is_initialiser method.name ≡ false
  pub found : find_method (world p) m.class m.name m.desc
      ≡ Some (imported_member of.file of.place (length class.fields + place) (exports_of p))

-- A field of an imported class that is no constant, static or not.
pub record IsImportedField (p : Package) (of_class : Bool) (f : MemberId) : Type 0 where
  pub class : ExportClass
  pub of : IsImportedClass p f.class class
  pub place : ℕ
  pub field : ExportField
  pub there : slice_get class.fields place ≡ Some field
  pub is_static : is_static field.flags ≡ of_class
  pub is_no_constant : field.constant ≡ None
  pub found : find_field (world p) f.class f.name f.desc ≡ Some (imported_member of.file of.place place (exports_of p))

-- A virtual method of an imported class that is no interface, named by the class that lists it, with its token there.
pub record IsImportedVirtual (p : Package) (m : MemberId) : Type 0 where
  pub class : ExportClass
  pub of : IsImportedClass p m.class class
  pub is_class : is_interface class.flags ≡ false
  pub place : ℕ
  pub method : ExportMethod
  pub there : slice_get class.methods place ≡ Some method
  pub is_virtual : is_virtual method ≡ true
  pub token : virtual_token p m ≡ method.token

-- What a key names is there: a class, a member of the package or of an imported class by name, or what its entry names
-- by tokens.
pub data IsNamed (p : Package) : PoolKey → Type 0 where
  of_class : {c : List ℕ} → IsNamed p (keys.Class c)
  of_field : {f : MemberId} → IsOwnField p f → IsNamed p (keys.Field f)
  of_cell : {f : MemberId} → IsOwnCell p f → IsNamed p (keys.StaticField f)
  of_method : {m : MemberId} → IsOwnMethod p m → IsNamed p (keys.StaticMethod m)
  imported_field : {f : MemberId} → IsImportedField p false f → IsNamed p (keys.Field f)
  imported_cell : {f : MemberId} → IsImportedField p true f → IsNamed p (keys.StaticField f)
  imported_virtual : {m : MemberId} → IsImportedVirtual p m → IsNamed p (keys.Virtual m)
  imported_method : {m : MemberId} → IsImportedMethod p m → IsNamed p (keys.StaticMethod m)
  by_token : {key : PoolKey} → names_member (whole p) (exports_of p) (entry_of (names p) key) ≡ true → IsNamed p key

-- so it is with all keys of the pool
abbrev pub AllAreNamed : Package → Type 0
AllAreNamed p = AllByRecursion (IsNamed p) (pool p)
