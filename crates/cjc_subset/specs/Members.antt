-- What a look-up finds, and the types that instructions name.
use Rattle.std.specs.Prelude.{ℕ, ◌-◌, ◌^◌, List, [], ◌∷◌, ◌++◌, length, slice_get, Bool, false, ◌&&◌, ◌==◌, nat_lt}
use Rattle.std.specs.Prelude.{if◌then◌else◌, Option, Some, None, is_some, option_map, codes}
use Rattle.std.specs.Str.{bytes_eq}
use Rattle.cjc_bytes.specs.Spots.{desc_of}
use Rattle.cjc_code.specs.ClassFile.declared.tree.ClassTree.{ClassTree}
use Rattle.cjc_code.specs.ClassFile.declared.tree.FieldTree.{FieldTree}
use Rattle.cjc_world.specs.ExportFile.declared.tree.ExportClass.{ExportClass}
use Rattle.cjc_world.specs.ExportFile.declared.tree.ExportField.{ExportField}
use Rattle.cjc_world.specs.ExportFile.declared.tree.ExportTree.{ExportTree}
use Rattle.cjc_world.specs.ExportFile.Members.{may_be_constant}
use Rattle.cjc_world.specs.declared.found.Found.{Found}
use Rattle.cjc_world.specs.Files.{Files}
use Rattle.cjc_world.specs.Classes.{Class, class_at}
use Rattle.cjc_world.specs.Rules.{members, members_before}

-- ---- names

-- an array, by its descriptor; 91 is [
abbrev pub is_array : List ℕ → Bool
is_array [] = false
is_array (b ∷ bs) = b == 91

-- bytes that 32 bits count and that are a descriptor
abbrev pub is_descriptor : List ℕ → Bool
is_descriptor name = nat_lt (length name) (2 ^ 32) && is_some (desc_of name)

-- a constructor, by the name of the method
abbrev pub is_constructor : List ℕ → Bool
is_constructor name = bytes_eq name (codes "<init>")

-- the initialiser of a class or interface, by the name of the method
abbrev pub is_initialiser : List ℕ → Bool
is_initialiser name = bytes_eq name (codes "<clinit>")

-- ---- what a look-up finds

-- a field or method: the class that declares it, and its flags
pub record ResolvedMember : Type 0 where
  pub owner : Class
  pub flags : ℕ

-- the field or method at this place of the class; none where it has no such
abbrev pub hit_at : (field : Bool) → Found → Class → Option ResolvedMember
hit_at field f c = option_map (λ m. record { owner = c; flags = m.flags }) (slice_get (members field c)
    (f.member - members_before field c))

-- the same of a class that may be none
abbrev pub hit_of : (field : Bool) → Found → Option Class → Option ResolvedMember
hit_of field f None = None
hit_of field f (Some c) = hit_at field f c

-- the field or method that a look-up found; none where it found none
unfoldable pub hit : List Class → (field : Bool) → Option Found → Option ResolvedMember
hit w field None = None
hit w field (Some f) = hit_of field f (class_at w f.imported f.class)

-- ---- constants: static final fields of type boolean, byte, short or int that have a ConstantValue

-- there is a field of a class file, and it is a constant
abbrev pub is_declared_constant : Option FieldTree → Bool
is_declared_constant None = false
is_declared_constant (Some m) = may_be_constant m.flags m.desc && is_some m.constant

-- there is a field of an export file, and it is a constant
abbrev pub is_imported_constant : Option ExportField → Bool
is_imported_constant None = false
is_imported_constant (Some m) = may_be_constant m.flags m.desc && is_some m.constant

-- the classes of all export files, in list order and as they stand in a file
abbrev pub imports : List ExportTree → List ExportClass
imports [] = []
imports (t ∷ ts) = t.classes ++ imports ts

-- the field at a place of a class of the package, where both are there
abbrev pub declared_field : Option ClassTree → ℕ → Option FieldTree
declared_field None i = None
declared_field (Some c) i = slice_get c.fields i

-- the field at a place of an imported class, where both are there
abbrev pub imported_field : Option ExportClass → ℕ → Option ExportField
imported_field None i = None
imported_field (Some c) i = slice_get c.fields i

-- whether a field that is found is a constant
unfoldable pub is_constant : Files → Found → Bool
is_constant files f =
    if f.imported then is_imported_constant (imported_field (slice_get (imports files.exports) f.class) f.member)
    else is_declared_constant (declared_field (slice_get files.classes f.class) f.member)
