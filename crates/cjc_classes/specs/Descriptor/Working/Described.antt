-- Descriptor as code puts it together, from the parts that it holds when it does.
use Rattle.std.specs.Prelude.{ℕ, ◌+◌, List, [], ◌∷◌, ◌++◌, map, length, option_to_list, slice_get, option_and_then}
use Rattle.std.specs.Prelude.{unwrap_or, Option, Some, None, false, if◌then◌else◌, codes}
use Rattle.std.specs.Str.{bytes_eq}
use Rattle.cjc_bytes.specs.AccessFlags.{is_static, acc_abstract}
use Rattle.cjc_bytes.specs.declared.fault.MemberId.{MemberId}
use Rattle.cjc_components.specs.LowerCapRead.declared.tree.ClassRef.{ClassRef}
use Rattle.cjc_components.specs.LowerCapRead.declared.tree.FieldDescriptor.{FieldDescriptor}
use Rattle.cjc_components.specs.LowerCapRead.declared.tree.FieldPlace.{FieldPlace}
use Rattle.cjc_components.specs.LowerCapRead.declared.tree.FieldPlace.TheVariants as places
use Rattle.cjc_components.specs.LowerCapRead.declared.tree.FieldType.{FieldType}
use Rattle.cjc_components.specs.LowerCapRead.declared.tree.FieldType.TheVariants as types
use Rattle.cjc_components.specs.LowerCapRead.declared.tree.MethodDescriptor.{MethodDescriptor}
use Rattle.cjc_components.specs.LowerCapRead.declared.tree.ClassDescriptor.{ClassDescriptor}
use Rattle.cjc_components.specs.LowerScript.Sorts.{Sort, Boolean, Byte, Short, Int, Reference, NoValue, field_sort}
use Rattle.cjc_world.specs.ClassFile.declared.tree.ClassTree.{ClassTree}
use Rattle.cjc_world.specs.ClassFile.declared.tree.FieldTree.{FieldTree}
use Rattle.cjc_world.specs.ClassFile.declared.tree.MethodTree.{MethodTree}
use Rattle.cjc_world.specs.Files.{Files}
use Rattle.cjc_world.specs.Classes.{Class, all_classes, declared}
use Rattle.cjc_world.specs.Added.{added_at as added_of}
use Rattle.cjc_tokens.specs.Fields.{is_constant}
use Rattle.cjc_tokens.specs.Members.{is_constructor}
use Rattle.cjc_tokens.specs.Tokens.{Assigned, token_of_class, token_of_member}
use Rattle.cjc_components.specs.LowerNCode.declared.narrow.PoolKey.{PoolKey}
use Rattle.cjc_components.specs.Class.{interfaces_of}
use Rattle.cjc_classes.specs.declared.descriptor.parts.Extent.{Extent}
use Rattle.cjc_components.specs.Descriptor.{added_flags, class_flags, field_flags, flag_where}
use Rattle.cjc_components.specs.Types.{desc_of_key}
use Rattle.cjc_classes.specs.ClassInfo.Refs.{ref_of}
use Rattle.cjc_classes.specs.TypeInfo.TypeTable.{TypeTable, offset_in}
use Rattle.cjc_classes.specs.declared.descriptor.parts.Parts.{Parts}

-- what is made before
pub record Inputs : Type 0 where
  pub files : Files
  pub tokens : Assigned
  pub ref : List ℕ → ClassRef
  pub cells : List (List ℕ)
  pub extents : List (List Extent)
  pub table : TypeTable

-- what is made before, of the parts that code holds
abbrev pub inputs_of : Parts → Inputs
inputs_of q = record {
  files = q.world.now;
  tokens = q.tokens.now;
  ref = ref_of q.refs.now;
  cells = q.cells.now;
  extents = q.extents.now;
  table = q.types.now;
}

-- the number of a class's member
abbrev pub number_in : List (List ℕ) → (class member : ℕ) → ℕ
number_in rows n k = unwrap_or (option_and_then (λ row. slice_get row k) (slice_get rows n)) 0

-- of a method that stands nowhere
abbrev pub nowhere : Extent
nowhere = record { offset = 0; bytecode_count = 0; handler_count = 0; first_handler = 0 }

-- where the method of a class's member stands in Method; nowhere where none is kept
abbrev pub extent_in : List (List Extent) → (class member : ℕ) → Extent
extent_in rows n k = unwrap_or (option_and_then (λ row. slice_get row k) (slice_get rows n)) nowhere

-- the token of a member of the package
abbrev pub token_in : Assigned → (class member : ℕ) → ℕ
token_in tokens n k = unwrap_or (token_of_member tokens (record { imported = false; class = n; member = k })) 0xFF

-- the offset of a type
abbrev pub type_at : Inputs → (desc : List ℕ) → ℕ
type_at q desc = offset_in q.table q.ref desc

-- what items give by their places, the first of which has this one
abbrev pub each_from : {A B : Type 0} → (ℕ → A → List B) → (place : ℕ) → List A → List B
each_from f k [] = []
each_from f k (x ∷ xs) = f k x ++ each_from f (k + 1) xs

-- ---- fields

-- a primitive type itself, a reference type by this offset of its descriptor
abbrev pub field_type_by : (offset : ℕ) → Sort → FieldType
field_type_by offset Boolean = types.Boolean
field_type_by offset Byte = types.Byte
field_type_by offset Short = types.Short
field_type_by offset Int = types.Int
field_type_by offset (Reference shape) = types.Described offset
field_type_by offset NoValue = types.Described 0

-- a static field by its cell, an instance field by its class and its token
abbrev pub place_at : Inputs → (number : ℕ) → (class : List ℕ) → (place token : ℕ) → FieldTree → FieldPlace
place_at q n class k token f = if is_static f.flags then places.Static (number_in q.cells n k)
    else places.Instance (q.ref class) token

-- the field at a place of the class of a number and name
abbrev pub field_at : Inputs → (number : ℕ) → (class : List ℕ) → (place : ℕ) → FieldTree → FieldDescriptor
field_at q n class k f = record {
  token = token_in q.tokens n k;
  flags = field_flags f.flags;
  place = place_at q n class k (token_in q.tokens n k) f;
  type_ = field_type_by (type_at q f.desc) (field_sort f.desc);
}

-- the field at a place, where it is no constant
abbrev pub field_if : Inputs → (number : ℕ) → (class : List ℕ) → (place : ℕ) → FieldTree → List FieldDescriptor
field_if q n class k f = if is_constant f then [] else field_at q n class k f ∷ []

-- the fields from a place on, constants left out
abbrev pub fields_at : Inputs → (number : ℕ) → (class : List ℕ) → (place : ℕ) → List FieldTree → List FieldDescriptor
fields_at q n class k fields = each_from (field_if q n class) k fields

-- ---- methods

-- the method at a place of the class of a number, with these flags, name and descriptor of the class file
abbrev pub method_by : Inputs → (number place flags : ℕ) → (name desc : List ℕ) → MethodDescriptor
method_by q n k flags name desc = let e = extent_in q.extents n k in record {
  token = token_in q.tokens n k;
  flags = field_flags flags + flag_where flags acc_abstract 0x40 + (if is_constructor name then 0x80 else 0);
  offset = e.offset;
  type_offset = type_at q desc;
  bytecode_count = e.bytecode_count;
  handler_count = e.handler_count;
  first_handler = e.first_handler;
}

-- the method at a place, where it is no class initialiser
abbrev pub method_if : Inputs → (number place : ℕ) → MethodTree → List MethodDescriptor
method_if q n k m = if bytes_eq m.name (codes "<clinit>") then [] else method_by q n k m.flags m.name m.desc ∷ []

-- the methods of a class file from a place on, the class initialiser left out
abbrev pub own_methods_at : Inputs → (number place : ℕ) → List MethodTree → List MethodDescriptor
own_methods_at q n k methods = each_from (method_if q n) k methods

-- a method at a place that is added to a class
abbrev pub got_method : Inputs → (number place : ℕ) → MemberId → List MethodDescriptor
got_method q n k m = method_by q n k added_flags m.name m.desc ∷ []

-- the methods from a place on that are added to a class
abbrev pub added_at : Inputs → (number place : ℕ) → List MemberId → List MethodDescriptor
added_at q n k added = each_from (got_method q n) k added

-- the methods of a class: those of its file, whose places are behind the fields, then those that are added
abbrev pub methods_at : Inputs → (number : ℕ) → (added : List MemberId) → ClassTree → List MethodDescriptor
methods_at q n added c = own_methods_at q n (length c.fields) c.methods
    ++ added_at q n (length c.fields + length c.methods) added

-- ---- classes

-- the class_ref of the class at a place
abbrev pub class_in : (ref : List ℕ → ClassRef) → List Class → (place : ℕ) → List ClassRef
class_in ref w place = map (λ i. ref i.name) (option_to_list (slice_get w place))

-- those of the interfaces of a class
abbrev pub names_at : Inputs → (number : ℕ) → ClassTree → List ClassRef
names_at q n c = map (λ i. q.ref i.name) (interfaces_of (all_classes q.files) (declared n c))

-- the class or interface of a number with its members; 0xFF is no token
abbrev pub class_at : Inputs → (number : ℕ) → (added : List MemberId) → ClassTree → ClassDescriptor
class_at q n added c = record {
  token = unwrap_or (token_of_class q.tokens n) 0xFF;
  flags = class_flags c.flags;
  this_class = q.ref c.name;
  interfaces = names_at q n c;
  fields = fields_at q n c.name 0 c.fields;
  methods = methods_at q n added c;
}

-- the class of a number, if there is one
abbrev pub class_where : Inputs → (number : ℕ) → Option ClassTree → List ClassDescriptor
class_where q n None = []
class_where q n (Some c) = class_at q n (added_of q.files n) c ∷ []

-- the class of a number among those of the package, if there is one
abbrev pub classes_at : Inputs → (number : ℕ) → List ClassDescriptor
classes_at q n = let files = q.files in class_where q n (slice_get files.classes n)

-- ---- types

-- the offset of the type of a pool entry, 0xFFFF where it has no descriptor
abbrev pub type_where : Inputs → List (List ℕ) → ℕ
type_where q [] = 0xFFFF
type_where q (desc ∷ rest) = type_at q desc

-- the offset of the type of a key's member, 0xFFFF for a class
abbrev pub key_type : Inputs → PoolKey → ℕ
key_type q key = type_where q (desc_of_key key)
