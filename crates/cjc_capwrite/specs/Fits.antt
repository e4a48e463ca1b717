-- Trees whose numbers and counts fit the fields that they are written to: each fact below says it of the tree or part
-- that it is named for.
use Rattle.std.specs.Prelude.{ℕ, ◌≡◌, ◌<◌, ◌≤◌, ◌^◌, true, false, length}
use Rattle.std.specs.List.{AllByRecursion}
use Rattle.cjc_capread.specs.declared.tree.ClassRef.{ClassRef}
use Rattle.cjc_capread.specs.declared.tree.ClassRef.TheVariants as class_refs
use Rattle.cjc_capread.specs.declared.tree.StaticRef.{StaticRef}
use Rattle.cjc_capread.specs.declared.tree.StaticRef.TheVariants as static_refs
use Rattle.cjc_capread.specs.declared.tree.Header.{Header}
use Rattle.cjc_capread.specs.declared.tree.Directory.{Directory}
use Rattle.cjc_capread.specs.declared.tree.Applet.{Applet}
use Rattle.cjc_capread.specs.declared.tree.AppletEntry.{AppletEntry}
use Rattle.cjc_capread.specs.declared.tree.Import.{Import}
use Rattle.cjc_capread.specs.declared.tree.ImportedPackage.{ImportedPackage}
use Rattle.cjc_capread.specs.declared.tree.ConstantPool.{ConstantPool}
use Rattle.cjc_capread.specs.declared.tree.PoolEntry.{PoolEntry}
use Rattle.cjc_capread.specs.declared.tree.PoolEntry.TheVariants as entries
use Rattle.cjc_capread.specs.declared.tree.ClassInfo.{ClassInfo}
use Rattle.cjc_capread.specs.declared.tree.InterfaceEntry.{InterfaceEntry}
use Rattle.cjc_capread.specs.declared.tree.ClassEntry.{ClassEntry}
use Rattle.cjc_capread.specs.declared.tree.ImplementedInterface.{ImplementedInterface}
use Rattle.cjc_capread.specs.declared.tree.Method.{Method}
use Rattle.cjc_capread.specs.declared.tree.Handler.{Handler}
use Rattle.cjc_capread.specs.declared.tree.StaticField.{StaticField}
use Rattle.cjc_capread.specs.declared.tree.ArrayInit.{ArrayInit}
use Rattle.cjc_capread.specs.declared.tree.ReferenceLocation.{ReferenceLocation}
use Rattle.cjc_capread.specs.declared.tree.Export.{Export}
use Rattle.cjc_capread.specs.declared.tree.ExportedClass.{ExportedClass}
use Rattle.cjc_capread.specs.declared.tree.Descriptor.{Descriptor}
use Rattle.cjc_capread.specs.declared.tree.ClassDescriptor.{ClassDescriptor}
use Rattle.cjc_capread.specs.declared.tree.FieldDescriptor.{FieldDescriptor}
use Rattle.cjc_capread.specs.declared.tree.FieldPlace.{FieldPlace}
use Rattle.cjc_capread.specs.declared.tree.FieldPlace.TheVariants as places
use Rattle.cjc_capread.specs.declared.tree.FieldType.{FieldType}
use Rattle.cjc_capread.specs.declared.tree.FieldType.TheVariants as types
use Rattle.cjc_capread.specs.declared.tree.MethodDescriptor.{MethodDescriptor}
use Rattle.cjc_capread.specs.declared.tree.TypeDescriptor.{TypeDescriptor}
use Rattle.cjc_capread.specs.Bytes.AccessFlags.{is_static}

-- in one byte, or in two
abbrev pub Fits1 : ℕ → Type 0
Fits1 n = n < 2 ^ 8

-- in two bytes
abbrev pub Fits2 : ℕ → Type 0
Fits2 n = n < 2 ^ 16

-- an offset or a package token leaves the high bit free, which tells one from the other
abbrev pub ClassFits : ClassRef → Type 0
ClassFits (class_refs.Inside offset) = offset < 0x8000
ClassFits (class_refs.Outside imported class) = (imported < 0x80) × (class < 2 ^ 8)

-- an offset in two bytes, or a package token that leaves the high bit free
abbrev pub StaticFits : StaticRef → Type 0
StaticFits (static_refs.Inside offset) = Fits2 offset
StaticFits (static_refs.Outside imported class token) = imported < 0x80

-- an AID and a name of the package whose lengths fit one byte
pub record HeaderFits (x : Header) : Type 0 where
  pub aid : Fits1 (length x.aid)
  pub name : Fits1 (length x.name)

-- the sizes of twelve components and those of the static field image, each in two bytes
pub record DirectoryFits (x : Directory) : Type 0 where
  pub twelve : length x.component_sizes ≡ 12
  pub component_sizes : AllByRecursion Fits2 x.component_sizes
  pub image_size : Fits2 x.image_size
  pub array_init_count : Fits2 x.array_init_count
  pub array_init_size : Fits2 x.array_init_size

-- an AID whose length fits one byte, and the offset of the install method in two bytes
pub record AppletEntryFits (x : AppletEntry) : Type 0 where
  pub aid : Fits1 (length x.aid)
  pub install_method : Fits2 x.install_method

-- no more applets than one byte counts
pub record AppletFits (x : Applet) : Type 0 where
  pub count : Fits1 (length x.applets)
  pub applets : AllByRecursion AppletEntryFits x.applets

-- an AID whose length fits one byte
pub record ImportedPackageFits (x : ImportedPackage) : Type 0 where
  pub aid : Fits1 (length x.aid)

-- no more imported packages than one byte counts
pub record ImportFits (x : Import) : Type 0 where
  pub count : Fits1 (length x.packages)
  pub packages : AllByRecursion ImportedPackageFits x.packages

-- the class or the static member that the entry refers to fits
abbrev pub PoolEntryFits : PoolEntry → Type 0
PoolEntryFits (entries.Classref class) = ClassFits class
PoolEntryFits (entries.InstanceFieldref class token) = ClassFits class
PoolEntryFits (entries.VirtualMethodref class token) = ClassFits class
PoolEntryFits (entries.SuperMethodref class token) = ClassFits class
PoolEntryFits (entries.StaticFieldref member) = StaticFits member
PoolEntryFits (entries.StaticMethodref member) = StaticFits member

-- no more entries than two bytes count
pub record PoolFits (x : ConstantPool) : Type 0 where
  pub count : Fits2 (length x.entries)
  pub entries : AllByRecursion PoolEntryFits x.entries

-- an interface has its flag set, and a class has not
pub record InterfaceFits (x : InterfaceEntry) : Type 0 where
  pub marked : 8 ≤ x.flags
  pub flags : x.flags < 16
  pub count : length x.superinterfaces < 16
  pub superinterfaces : AllByRecursion ClassFits x.superinterfaces

-- no more method tokens than one byte counts
pub record ImplementedFits (x : ImplementedInterface) : Type 0 where
  pub interface : ClassFits x.interface
  pub index : Fits1 (length x.index)

-- three bits of flags, tables of no more methods than one byte counts, and no more interfaces than four bits count
pub record ClassEntryFits (x : ClassEntry) : Type 0 where
  pub flags : x.flags < 8
  pub superclass : ClassFits x.superclass
  pub public_count : Fits1 (length x.public_methods)
  pub package_count : Fits1 (length x.package_methods)
  pub public_methods : AllByRecursion Fits2 x.public_methods
  pub package_methods : AllByRecursion Fits2 x.package_methods
  pub count : length x.interfaces < 16
  pub interfaces : AllByRecursion ImplementedFits x.interfaces

-- all interfaces and all classes fit
pub record ClassInfoFits (x : ClassInfo) : Type 0 where
  pub interfaces : AllByRecursion InterfaceFits x.interfaces
  pub classes : AllByRecursion ClassEntryFits x.classes

-- offsets and the catch type in two bytes, and a range whose length leaves a bit for the stop flag
pub record HandlerFits (x : Handler) : Type 0 where
  pub start : Fits2 x.start
  pub length : x.length < 0x8000
  pub handler : Fits2 x.handler
  pub catch_index : Fits2 x.catch_index

-- no more exception handlers than one byte counts
pub record MethodFits (x : Method) : Type 0 where
  pub count : Fits1 (length x.handlers)
  pub handlers : AllByRecursion HandlerFits x.handlers

-- the type is boolean, byte, short or int
pub record ArrayInitFits (x : ArrayInit) : Type 0 where
  pub least : 2 ≤ x.type_
  pub greatest : x.type_ ≤ 5
  pub values : Fits2 (length x.values)

-- sizes and counts in two bytes
pub record StaticFieldFits (x : StaticField) : Type 0 where
  pub image_size : Fits2 x.image_size
  pub reference_count : Fits2 x.reference_count
  pub count : Fits2 (length x.array_inits)
  pub array_inits : AllByRecursion ArrayInitFits x.array_inits
  pub default_value_count : Fits2 x.default_value_count
  pub values : Fits2 (length x.values)

-- no more locations of each kind than two bytes count
pub record LocationsFit (x : ReferenceLocation) : Type 0 where
  pub one_byte : Fits2 (length x.one_byte)
  pub two_byte : Fits2 (length x.two_byte)

-- offsets in two bytes, and no more static fields and methods than one byte counts
pub record ExportedClassFits (x : ExportedClass) : Type 0 where
  pub class_offset : Fits2 x.class_offset
  pub field_count : Fits1 (length x.fields)
  pub method_count : Fits1 (length x.methods)
  pub fields : AllByRecursion Fits2 x.fields
  pub methods : AllByRecursion Fits2 x.methods

-- no more exported classes than one byte counts
pub record ExportFits (x : Export) : Type 0 where
  pub count : Fits1 (length x.classes)
  pub classes : AllByRecursion ExportedClassFits x.classes

-- the place is static exactly where the flag is set
abbrev pub PlaceFits : ℕ → FieldPlace → Type 0
PlaceFits flags (places.Static offset) = (is_static flags ≡ true) × Fits2 offset
PlaceFits flags (places.Instance class token) = (is_static flags ≡ false) × ClassFits class

-- the offset of a type descriptor leaves the high bit free, which marks a primitive type
abbrev pub TypeFits : FieldType → Type 0
TypeFits (types.Described offset) = offset < 0x8000
TypeFits type = Unit {0}

-- the place and the type of the field fit
pub record FieldFits (x : FieldDescriptor) : Type 0 where
  pub place : PlaceFits x.flags x.place
  pub type : TypeFits x.type_

-- offsets and counts in two bytes
pub record MethodDescriptorFits (x : MethodDescriptor) : Type 0 where
  pub offset : Fits2 x.offset
  pub type_offset : Fits2 x.type_offset
  pub bytecode_count : Fits2 x.bytecode_count
  pub handler_count : Fits2 x.handler_count
  pub first_handler : Fits2 x.first_handler

-- no more interfaces than one byte counts, and no more fields and methods than two bytes count
pub record ClassDescriptorFits (x : ClassDescriptor) : Type 0 where
  pub this_class : ClassFits x.this_class
  pub interface_count : Fits1 (length x.interfaces)
  pub field_count : Fits2 (length x.fields)
  pub method_count : Fits2 (length x.methods)
  pub interfaces : AllByRecursion ClassFits x.interfaces
  pub fields : AllByRecursion FieldFits x.fields
  pub methods : AllByRecursion MethodDescriptorFits x.methods

-- no more nibbles than one byte counts, each of four bits
pub record TypeDescriptorFits (x : TypeDescriptor) : Type 0 where
  pub count : Fits1 (length x.nibbles)
  pub nibbles : AllByRecursion (λ n. n < 16) x.nibbles

-- no more classes than one byte counts, and no more types of constant pool entries than two bytes count
pub record DescriptorFits (x : Descriptor) : Type 0 where
  pub count : Fits1 (length x.classes)
  pub classes : AllByRecursion ClassDescriptorFits x.classes
  pub pool_count : Fits2 (length x.pool_types)
  pub pool_types : AllByRecursion Fits2 x.pool_types
  pub types : AllByRecursion TypeDescriptorFits x.types
