-- Class: the interfaces and classes of a package (Java Card Virtual Machine Specification 2.2.2, section 6.8).
use Rattle.std.specs.Prelude.{ℕ, ◌+◌, ◌==◌, ◌&&◌, ◌||◌, List, [], map, slice_get, unwrap_or, count_by, Bool, true}
use Rattle.std.specs.Prelude.{false, if◌then◌else◌, Option, Some, None}
use Rattle.std.specs.Str.{bytes_eq}
use Rattle.cjc_list.specs.Bytes.AccessFlags.{is_interface}
use Rattle.cjc_capwrite.specs.CapRead.declared.tree.ClassRef.{ClassRef}
use Rattle.cjc_capwrite.specs.CapRead.declared.tree.ClassInfo.{ClassInfo}
use Rattle.cjc_capwrite.specs.CapRead.declared.tree.InterfaceEntry.{InterfaceEntry}
use Rattle.cjc_capwrite.specs.CapRead.declared.tree.ClassEntry.{ClassEntry}
use Rattle.cjc_capwrite.specs.CapRead.declared.tree.ImplementedInterface.{ImplementedInterface}
use Rattle.cjc_clinit.specs.ClassFile.declared.tree.ClassTree.{ClassTree}
use Rattle.cjc_clinit.specs.ClassFile.declared.tree.FieldTree.{FieldTree}
use Rattle.cjc_clinit.specs.World.declared.found.Found.{Found}
use Rattle.cjc_clinit.specs.World.Files.{Files}
use Rattle.cjc_clinit.specs.World.Classes.{Class}
use Rattle.cjc_clinit.specs.World.Interfaces.{known, is_among}
use Rattle.cjc_clinit.specs.World.Exported.{shareable}
use Rattle.cjc_clinit.specs.World.Order.{in_order}
use Rattle.cjc_vtable.specs.LowerTokens.Fields.{is_instance, is_reference, group, instance_cells, cells_of}
use Rattle.cjc_vtable.specs.LowerTokens.Methods.{interfaces_at}
use Rattle.cjc_vtable.specs.declared.table.InterfaceMap.{InterfaceMap}
use Rattle.cjc_vtable.specs.Tables.{table_of}
use Rattle.cjc_components.specs.Package.{Package, world}
use Rattle.cjc_components.specs.Methods.{method_offset}

-- ---- what both have

-- the interfaces of a class or interface that some file has, inherited ones too, in order
abbrev pub interfaces_of : List Class → Class → List Class
interfaces_of w c = known (interfaces_at w c)

-- javacard/framework/Shareable is among its interfaces, whether or not some file has it, or it is that interface
abbrev pub is_shareable : List Class → Class → Bool
is_shareable w c = is_among (interfaces_at w c) shareable || (is_interface c.flags && bytes_eq c.name shareable)

-- ACC_INTERFACE and ACC_SHAREABLE
abbrev pub acc_interface : ℕ
acc_interface = 8

-- the flag of an interface, or a class, that is shareable
abbrev pub acc_shareable : ℕ
acc_shareable = 4

-- the flags of an info
abbrev pub info_flags : List Class → Class → ℕ
info_flags w c = (if is_interface c.flags then acc_interface else 0) + (if is_shareable w c then acc_shareable else 0)

-- ---- interfaces

-- an interface with all of its superinterfaces, where class_refs are these
abbrev pub interface_entry : (ref : List ℕ → ClassRef) → List Class → Class → InterfaceEntry
interface_entry ref w i = record { flags = info_flags w i; superinterfaces = map (λ s. ref s.name) (interfaces_of w i) }

-- ---- classes

-- the fields of a class file
abbrev pub fields_in : Option ClassTree → List FieldTree
fields_in None = []
fields_in (Some c) = c.fields

-- the fields of a class of the package
abbrev pub fields_of : Files → Class → List FieldTree
fields_of files c = fields_in (slice_get files.classes c.number)

-- the name of the superclass of a class of the package
abbrev pub superclass : Class → List ℕ
superclass c = unwrap_or (slice_get c.supers 0) []

-- an instance field of a reference type
abbrev pub is_reference_field : FieldTree → Bool
is_reference_field f = is_instance f && is_reference f.desc

-- how many of these a class declares
abbrev pub reference_count : List FieldTree → ℕ
reference_count fields = count_by is_reference_field fields

-- their first token: references stand behind the public and protected primitives
abbrev pub first_reference_token : List FieldTree → ℕ
first_reference_token fields = if reference_count fields == 0 then 0xFF else cells_of (λ f. is_instance f
    && group f == 0) fields

-- an entry of a public table: 0xFFFF where the implementation is imported
abbrev pub table_entry : Package → Option Found → ℕ
table_entry p None = 0xFFFF
table_entry p (Some f) = method_offset p f

-- an interface that a class implements, where class_refs are these
abbrev pub implemented : (ref : List ℕ → ClassRef) → InterfaceMap → ImplementedInterface
implemented ref m = record { interface = ref m.interface; index = m.index }

-- a class with its tables and maps, where class_refs are these
abbrev pub class_entry : (ref : List ℕ → ClassRef) → Package → Class → ClassEntry
class_entry ref p c =
    let fields = fields_of p.files c in
    let table = table_of (world p) c in
    record {
      flags = info_flags (world p) c;
      superclass = ref (superclass c);
      declared_instance_size = instance_cells fields;
      first_reference_token = first_reference_token fields;
      reference_count = reference_count fields;
      public_base = table.public_base;
      package_base = table.package_base;
      public_methods = map (table_entry p) table.public;
      package_methods = map (method_offset p) table.«package»;
      interfaces = map (implemented ref) table.maps;
    }

-- ---- all

-- Class, where class_refs are these: interfaces before classes, and a super before its subs.
abbrev pub class_info : (ref : List ℕ → ClassRef) → Package → ClassInfo
class_info ref p = record {
  interfaces = map (interface_entry ref (world p)) (in_order (world p) true);
  classes = map (class_entry ref p) (in_order (world p) false);
}
