-- Descriptor: the classes of a package with their members, and types (Java Card Virtual Machine Specification 2.2.2,
-- section 6.13).
use Rattle.std.specs.Prelude.{ℕ, ◌+◌, ◌-◌, List, [], ◌∷◌, ◌++◌, map, length, slice_get, unwrap_or, Some, if◌then◌else◌}
use Rattle.cjc_list.specs.Bytes.AccessFlags.{has, is_static, acc_public, acc_private, acc_protected, acc_static}
use Rattle.cjc_list.specs.Bytes.AccessFlags.{acc_final}
use Rattle.cjc_list.specs.Bytes.AccessFlags.{acc_interface, acc_abstract}
use Rattle.cjc_capwrite.specs.CapRead.declared.tree.FieldDescriptor.{FieldDescriptor}
use Rattle.cjc_capwrite.specs.CapRead.declared.tree.FieldPlace.{FieldPlace}
use Rattle.cjc_capwrite.specs.CapRead.declared.tree.FieldPlace.TheVariants as places
use Rattle.cjc_capwrite.specs.CapRead.declared.tree.FieldType.{FieldType}
use Rattle.cjc_capwrite.specs.CapRead.declared.tree.FieldType.TheVariants as types
use Rattle.cjc_capwrite.specs.CapRead.declared.tree.MethodDescriptor.{MethodDescriptor}
use Rattle.cjc_capwrite.specs.CapRead.declared.tree.ClassDescriptor.{ClassDescriptor}
use Rattle.cjc_capwrite.specs.CapRead.declared.tree.Descriptor.{Descriptor}
use Rattle.cjc_emit.specs.Script.Sorts.{Sort, Boolean, Byte, Short, Int, Reference, NoValue, field_sort}
use Rattle.cjc_clinit.specs.ClassFile.declared.tree.FieldTree.{FieldTree}
use Rattle.cjc_clinit.specs.World.declared.found.Found.{Found}
use Rattle.cjc_clinit.specs.World.Classes.{Member, Class}
use Rattle.cjc_clinit.specs.World.Added.{added}
use Rattle.cjc_clinit.specs.World.Lookup.{member_at}
use Rattle.cjc_clinit.specs.World.Order.{class_order, methods_of_class}
use Rattle.cjc_vtable.specs.LowerTokens.Fields.{is_constant}
use Rattle.cjc_vtable.specs.LowerTokens.Members.{is_constructor}
use Rattle.cjc_vtable.specs.LowerTokens.Tokens.{token_of_class}
use Rattle.cjc_clinit.specs.Image.{field_id}
use Rattle.cjc_emit.specs.NCode.declared.narrow.PoolKey.{PoolKey}
use Rattle.cjc_components.specs.Package.{Package, world, tokens, pool}
use Rattle.cjc_components.specs.Methods.{Extent, extent_of}
use Rattle.cjc_components.specs.Class.{fields_of, interfaces_of}
use Rattle.cjc_components.specs.Statics.{cell_offset}
use Rattle.cjc_components.specs.Names.{class_ref, member_token}
use Rattle.cjc_components.specs.Types.{desc_of_key, type_descriptor, type_offset, types_of}

-- ---- flags

-- a flag, where some flags have another
abbrev pub flag_where : (flags flag written : ℕ) → ℕ
flag_where flags flag written = if has flags flag then written else 0

-- public 1, final 10, interface 40, abstract 80
abbrev pub class_flags : ℕ → ℕ
class_flags flags =
    flag_where flags acc_public 0x01 + flag_where flags acc_final 0x10 + flag_where flags acc_interface 0x40 +
    flag_where flags acc_abstract 0x80

-- public 1, private 2, protected 4, static 8, final 10
abbrev pub field_flags : ℕ → ℕ
field_flags flags =
    flag_where flags acc_public 0x01 + flag_where flags acc_private 0x02 + flag_where flags acc_protected 0x04 +
    flag_where flags acc_static 0x08 + flag_where flags acc_final 0x10

-- those of a field, abstract 40, constructor 80
abbrev pub method_flags : Member → ℕ
method_flags m = field_flags m.flags + flag_where m.flags acc_abstract 0x40 + (if is_constructor m.name then 0x80
    else 0)

-- ---- fields

-- a static field by its cell, an instance field by its class and its token
abbrev pub field_place : Package → Class → FieldTree → (token : ℕ) → FieldPlace
field_place p c f token =
    if is_static f.flags then places.Static (cell_offset p.image (field_id c.name f))
    else places.Instance (class_ref p c.name) token

-- a primitive type itself, a reference type by the offset of its descriptor
abbrev pub field_type : Package → (desc : List ℕ) → Sort → FieldType
field_type p desc Boolean = types.Boolean
field_type p desc Byte = types.Byte
field_type p desc Short = types.Short
field_type p desc Int = types.Int
field_type p desc (Reference shape) = types.Described (type_offset p desc)
field_type p desc NoValue = types.Described 0

-- the field at a place of a class
abbrev pub field_descriptor : Package → Class → (place : ℕ) → FieldTree → FieldDescriptor
field_descriptor p c i f =
    let token = member_token p (Some (member_at c i)) in
    record {
      token = token;
      flags = field_flags f.flags;
      place = field_place p c f token;
      type_ = field_type p f.desc (field_sort f.desc);
    }

-- those of the fields from a place on that are no constants
abbrev pub fields_from : Package → Class → (place : ℕ) → List FieldTree → List FieldDescriptor
fields_from p c i [] = []
fields_from p c i (f ∷ fields) = (if is_constant f then [] else field_descriptor p c i f ∷ [])
    ++ fields_from p c (i + 1) fields

-- ---- methods

-- a method that is added to a class is public and abstract
abbrev pub added_flags : ℕ
added_flags = 0x0401

-- a method as it is added to a class
abbrev pub as_added : Member → Member
as_added m = record m { flags = added_flags }

-- the methods of a class, those that are added to it behind its own
abbrev pub methods_with_added : List Class → Class → List Member
methods_with_added w c = c.methods ++ map as_added (added w c)

-- what stands where nothing is
abbrev pub no_member : Member
no_member = record { flags = 0; name = []; desc = []; token = 0 }

-- the method at a place among the members of a class
abbrev pub method_in : List Class → Class → (place : ℕ) → Member
method_in w c i = unwrap_or (slice_get (methods_with_added w c) (i - length c.fields)) no_member

-- a method with where it stands in Method; those of interfaces stand nowhere
abbrev pub described_by : Package → (token : ℕ) → Member → Extent → MethodDescriptor
described_by p token m e = record {
  token = token;
  flags = method_flags m;
  offset = e.offset;
  type_offset = type_offset p m.desc;
  bytecode_count = e.bytecode_count;
  handler_count = e.handler_count;
  first_handler = e.first_handler;
}

-- a method of a class with its token, and where it stands in Method
abbrev pub method_descriptor : Package → Class → Found → MethodDescriptor
method_descriptor p c f = described_by p (member_token p (Some f)) (method_in (world p) c f.member) (extent_of p f)

-- ---- classes

-- a class or interface; 0xFF is no token
abbrev pub class_descriptor : Package → Class → ClassDescriptor
class_descriptor p c = record {
  token = unwrap_or (token_of_class (tokens p) c.number) 0xFF;
  flags = class_flags c.flags;
  this_class = class_ref p c.name;
  interfaces = map (λ i. class_ref p i.name) (interfaces_of (world p) c);
  fields = fields_from p c 0 (fields_of p.files c);
  methods = map (method_descriptor p c) (methods_of_class (world p) c);
}

-- ---- the component

-- the type of an entry of the pool; a class has none
abbrev pub type_by : Package → List (List ℕ) → ℕ
type_by p [] = 0xFFFF
type_by p (desc ∷ rest) = type_offset p desc

-- the type of the member that a key names, 0xFFFF for a class
abbrev pub pool_type : Package → PoolKey → ℕ
pool_type p key = type_by p (desc_of_key key)

-- Descriptor: all classes and interfaces in the order of Class, a type for each entry of the pool, and the type
-- descriptors.
abbrev pub descriptor : Package → Descriptor
descriptor p = record {
  classes = map (class_descriptor p) (class_order (world p));
  pool_types = map (pool_type p) (pool p);
  types = map type_descriptor (types_of p);
}
