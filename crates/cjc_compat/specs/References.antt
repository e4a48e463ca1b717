-- What packages refer to of a package by token (Java Card Virtual Machine Specification 2.2.2, sections 4.3.3, 4.3.7
-- and 6.7), and what a new version of an export file keeps of that.
use Rattle.std.specs.Prelude.{◌≡◌, ◌||◌, ℕ, Bool, true, false, if◌then◌else◌, List, Some, codes, slice_get}
use Rattle.std.specs.Str.{bytes_eq}
use Rattle.cjc_export.specs.Bytes.AccessFlags.{is_interface, is_static}
use Rattle.cjc_compat.specs.Rules.{is_constant}
use Rattle.cjc_export.specs.Supers.{is_one_of}
use Rattle.cjc_export.specs.declared.tree.ExportClass.{ExportClass}
use Rattle.cjc_export.specs.declared.tree.ExportField.{ExportField}
use Rattle.cjc_export.specs.declared.tree.ExportMethod.{ExportMethod}
use Rattle.cjc_export.specs.declared.tree.ExportTree.{ExportTree}

-- what a token of a member counts among
pub data Kind : Type 0 where
  InstanceField : Kind
  StaticField : Kind
  -- constructors too
  StaticMethod : Kind
  VirtualMethod : Kind
  InterfaceMethod : Kind

-- What code refers to: a class by its token, or a member by its kind and its token in the class of a token.
pub data Reference : Type 0 where
  to_class : (class : ℕ) → Reference
  to_member : (class : ℕ) → Kind → (token : ℕ) → Reference

-- What that is: a class by its name, or a member by its class, kind, name and descriptor.
pub data Meant : Type 0 where
  is_class : (name : List ℕ) → Meant
  is_member : (class : List ℕ) → Kind → (name desc : List ℕ) → Meant

-- a field's kind
abbrev pub kind_of_field : ExportField → Kind
kind_of_field f = if is_static f.flags then StaticField else InstanceField

-- a method's kind, of an interface or of another class
abbrev pub kind_of_method : (of_interface : Bool) → ExportMethod → Kind
kind_of_method true m = InterfaceMethod
kind_of_method false m = if is_static m.flags || bytes_eq m.name (codes "<init>") then StaticMethod else VirtualMethod

-- The reference means this in a package with this export file. Nothing refers to constants.
pub data Resolves (tree : ExportTree) : Reference → Meant → Type 0 where
  class : (n : ℕ) (c : ExportClass) → slice_get tree.classes n ≡ Some c
      → Resolves tree (to_class c.token) (is_class c.name)
  field : (n : ℕ) (c : ExportClass) → slice_get tree.classes n ≡ Some c → (i : ℕ) (f : ExportField)
      → slice_get c.fields i ≡ Some f → is_constant f ≡ false
      → Resolves tree (to_member c.token (kind_of_field f) f.token) (is_member c.name (kind_of_field f) f.name f.desc)
  method : (n : ℕ) (c : ExportClass) → slice_get tree.classes n ≡ Some c → (i : ℕ) (m : ExportMethod)
      → slice_get c.methods i ≡ Some m
      → Resolves tree (to_member c.token (kind_of_method (is_interface c.flags) m) m.token)
      (is_member c.name (kind_of_method (is_interface c.flags) m) m.name m.desc)

-- A class of the export file lists a name among its superclasses, or among its interfaces.
pub data ListsSuper (tree : ExportTree) : (class super : List ℕ) → Type 0 where
  superclass : (n : ℕ) (c : ExportClass) → slice_get tree.classes n ≡ Some c → (x : List ℕ)
      → is_one_of c.listed x ≡ true → ListsSuper tree c.name x
  interface : (n : ℕ) (c : ExportClass) → slice_get tree.classes n ≡ Some c → (x : List ℕ)
      → is_one_of c.interfaces x ≡ true → ListsSuper tree c.name x

-- What the new version keeps: whatever refers to something in the old one means the same in the new one, and what the
-- old one lists above a class the new one lists too.
pub record KeepsReferences (old new : ExportTree) : Type 0 where
  pub references : (r : Reference) (meant : Meant) → Resolves old r meant → Resolves new r meant
  pub supers : (class super : List ℕ) → ListsSuper old class super → ListsSuper new class super
