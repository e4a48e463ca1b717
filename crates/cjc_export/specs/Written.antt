-- An export file as bytes, from its tree: the pool of the constants that writing needs, then the package and
-- its classes.
use Rattle.std.specs.Prelude.{ℕ, ℤ, Bool, List, [], ◌∷◌, ◌++◌, length, position, Option, Some, None, unwrap_or}
use Rattle.std.specs.Prelude.{if◌then◌else◌, codes}
use Rattle.std.specs.List.{flat_map}
use Rattle.std.specs.Int.{w8, w16, w32, to_be_bytes, cast_unsigned}
use Rattle.indexmap.specs.IndexSet.{insert_all}
use Rattle.cjc_export.specs.declared.tree.ExportField.{ExportField}
use Rattle.cjc_export.specs.declared.tree.ExportMethod.{ExportMethod}
use Rattle.cjc_export.specs.declared.tree.ExportClass.{ExportClass}
use Rattle.cjc_export.specs.declared.tree.ExportTree.{ExportTree}
use Rattle.cjc_export.specs.Constant.{Constant, text, integer, class, this, same}

-- ---- the constants that writing needs, in the order in which it needs them: a name before the entry that names it

-- the name of a class, and the class
abbrev pub class_needs : List ℕ → List Constant
class_needs name = text name ∷ class name ∷ []

-- the name of the attribute that holds a constant's value
unfoldable pub value_name : Constant
value_name = text (codes "ConstantValue")

-- the name of the attribute and the value, where a field is a constant
abbrev pub value_needs : Option ℤ → List Constant
value_needs None = []
value_needs (Some value) = value_name ∷ integer (cast_unsigned w32 value) ∷ []

-- the name and the descriptor of a field, and what its value needs
abbrev pub field_needs : ExportField → List Constant
field_needs f = text f.name ∷ text f.desc ∷ value_needs f.constant

-- the name and the descriptor of a method
abbrev pub method_needs : ExportMethod → List Constant
method_needs m = text m.name ∷ text m.desc ∷ []

-- the class, the classes and interfaces that it lists, then what its fields and its methods need
unfoldable pub class_tree_needs : ExportClass → List Constant
class_tree_needs c = class_needs c.name ++ (flat_map class_needs c.listed ++ (flat_map class_needs c.interfaces
    ++ (flat_map field_needs c.fields ++ flat_map method_needs c.methods)))

-- the name of the package, the package, then what its classes need
unfoldable pub needs : ExportTree → List Constant
needs t = text t.name ∷ this ∷ flat_map class_tree_needs t.classes

-- the constants of the pool: each once, by its first need
abbrev pub constants : ExportTree → List Constant
constants t = insert_all same [] (needs t)

-- ---- the bytes

-- the index of a constant in the pool
unfoldable pub index_of : List Constant → Constant → ℕ
index_of pool c = unwrap_or (position (same c) pool) 0

-- the index of a constant in the pool, as two bytes
abbrev pub index_bytes : List Constant → Constant → List ℕ
index_bytes pool c = to_be_bytes w16 (index_of pool c)

-- the index of the class of this name, as two bytes
abbrev pub class_ref : List Constant → List ℕ → List ℕ
class_ref pool name = index_bytes pool (class name)

-- the attributes of a field
abbrev pub value_bytes : List Constant → Option ℤ → List ℕ
value_bytes pool None = to_be_bytes w16 0
value_bytes pool (Some value) = to_be_bytes w16 1 ++ (index_bytes pool value_name
    ++ (to_be_bytes w32 2 ++ index_bytes pool (integer (cast_unsigned w32 value))))

-- a field_info: its token, flags, name, descriptor and attributes
unfoldable pub field_bytes : List Constant → ExportField → List ℕ
field_bytes pool f = to_be_bytes w8 f.token ++ (to_be_bytes w16 f.flags ++ (index_bytes pool (text f.name)
    ++ (index_bytes pool (text f.desc) ++ value_bytes pool f.constant)))

-- a method_info: its token, flags, name and descriptor
unfoldable pub method_bytes : List Constant → ExportMethod → List ℕ
method_bytes pool m = to_be_bytes w8 m.token ++ (to_be_bytes w16 m.flags ++ (index_bytes pool (text m.name)
    ++ index_bytes pool (text m.desc)))

-- behind the interfaces of a class
unfoldable pub members_bytes : List Constant → ExportClass → List ℕ
members_bytes pool c = to_be_bytes w16 (length c.fields) ++ (flat_map (field_bytes pool) c.fields
    ++ (to_be_bytes w16 (length c.methods) ++ flat_map (method_bytes pool) c.methods))

-- a class_info: its token, flags, name, superclasses, interfaces and members
unfoldable pub class_bytes : List Constant → ExportClass → List ℕ
class_bytes pool c =
    to_be_bytes w8 c.token ++ (to_be_bytes w16 c.flags ++ (class_ref pool c.name
    ++ (to_be_bytes w16 (length c.listed) ++ (flat_map (class_ref pool) c.listed
    ++ (to_be_bytes w8 (length c.interfaces) ++ (flat_map (class_ref pool) c.interfaces ++ members_bytes pool c))))))

-- ACC_LIBRARY for a library, else no flag
abbrev pub library_flag : Bool → ℕ
library_flag library = if library then 1 else 0

-- the entry of the package behind its tag
unfoldable pub package_bytes : ExportTree → List Constant → List ℕ
package_bytes t pool =
    to_be_bytes w8 (library_flag t.library) ++ (index_bytes pool (text t.name)
    ++ (to_be_bytes w8 t.minor ++ (to_be_bytes w8 t.major ++ (to_be_bytes w8 (length t.aid) ++ t.aid))))

-- an entry of the pool
unfoldable pub constant_bytes : ExportTree → List Constant → Constant → List ℕ
constant_bytes t pool (text bytes) = to_be_bytes w8 1 ++ (to_be_bytes w16 (length bytes) ++ bytes)
constant_bytes t pool (integer n) = to_be_bytes w8 3 ++ to_be_bytes w32 n
constant_bytes t pool (class name) = to_be_bytes w8 7 ++ index_bytes pool (text name)
constant_bytes t pool this = to_be_bytes w8 13 ++ package_bytes t pool

-- magic, version and count of the pool
unfoldable pub head_bytes : List Constant → List ℕ
head_bytes pool = to_be_bytes w32 0x00FACADE
    ++ (to_be_bytes w8 2 ++ (to_be_bytes w8 2 ++ to_be_bytes w16 (length pool)))

-- the whole file over a pool
unfoldable pub bytes_over : List Constant → ExportTree → List ℕ
bytes_over pool t = head_bytes pool ++ (flat_map (constant_bytes t pool) pool ++ (index_bytes pool this
    ++ (to_be_bytes w8 (length t.classes) ++ flat_map (class_bytes pool) t.classes)))

-- the whole file, with a pool of the constants that it needs
unfoldable pub written : ExportTree → List ℕ
written t = bytes_over (constants t) t
