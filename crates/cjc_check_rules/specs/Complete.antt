-- The components of a package of which only Applet and Export may be absent, and how many bytes each has (Java Card
-- Virtual Machine Specification 2.2.2, chapter 6).
use Rattle.std.specs.Prelude.{ℕ, suc, ◌+◌, ◌*◌, ◌/◌, ◌<◌, ◌^◌, List, [], ◌∷◌, length, sum_by, Option, Some, None}
use Rattle.cjc_capread.specs.declared.tree.Header.{Header}
use Rattle.cjc_capread.specs.declared.tree.Applet.{Applet}
use Rattle.cjc_capread.specs.declared.tree.AppletEntry.{AppletEntry}
use Rattle.cjc_capread.specs.declared.tree.Import.{Import}
use Rattle.cjc_capread.specs.declared.tree.ImportedPackage.{ImportedPackage}
use Rattle.cjc_capread.specs.declared.tree.ConstantPool.{ConstantPool}
use Rattle.cjc_capread.specs.declared.tree.InterfaceEntry.{InterfaceEntry}
use Rattle.cjc_capread.specs.declared.tree.ImplementedInterface.{ImplementedInterface}
use Rattle.cjc_capread.specs.declared.tree.ClassEntry.{ClassEntry}
use Rattle.cjc_capread.specs.declared.tree.ClassInfo.{ClassInfo}
use Rattle.cjc_capread.specs.declared.tree.Method.{Method}
use Rattle.cjc_capread.specs.declared.tree.ArrayInit.{ArrayInit}
use Rattle.cjc_capread.specs.declared.tree.StaticField.{StaticField}
use Rattle.cjc_capread.specs.declared.tree.ReferenceLocation.{ReferenceLocation}
use Rattle.cjc_capread.specs.declared.tree.ExportedClass.{ExportedClass}
use Rattle.cjc_capread.specs.declared.tree.Export.{Export}
use Rattle.cjc_capread.specs.declared.tree.ClassDescriptor.{ClassDescriptor}
use Rattle.cjc_capread.specs.declared.tree.TypeDescriptor.{TypeDescriptor}
use Rattle.cjc_capread.specs.declared.tree.Descriptor.{Descriptor}
use Rattle.cjc_capread.specs.declared.tree.CapTree.{CapTree}

-- ---- components

-- the components beside Header and Directory, where none but Applet and Export is absent
pub record Complete : Type 0 where
  pub applet : Option Applet
  pub import : Import
  pub pool : ConstantPool
  pub class : ClassInfo
  pub method : Method
  pub statics : StaticField
  pub locations : ReferenceLocation
  pub export : Option Export
  pub descriptor : Descriptor

-- these components with Applet and Export of a package; nothing where one of them is absent
abbrev pub complete_with : CapTree → Option Import → Option ConstantPool → Option ClassInfo → Option Method
    → Option StaticField → Option ReferenceLocation → Option Descriptor → Option Complete
complete_with cap (Some import) (Some pool) (Some class) (Some method) (Some statics) (Some locations)
    (Some descriptor) = Some (record {
      applet = cap.applet;
      import = import;
      pool = pool;
      class = class;
      method = method;
      statics = statics;
      locations = locations;
      export = cap.export;
      descriptor = descriptor;
    })
complete_with cap _ _ _ _ _ _ _ = None

-- the components, where no other one is absent
abbrev pub complete : CapTree → Option Complete
complete cap = complete_with cap cap.import cap.pool cap.class cap.method cap.statics cap.locations cap.descriptor

-- ---- sizes of items in bytes

-- its AID behind a length, and the offset of its install method
abbrev pub applet_size : AppletEntry → ℕ
applet_size a = 3 + length a.aid

-- a version, and its AID behind a length
abbrev pub package_size : ImportedPackage → ℕ
package_size p = 3 + length p.aid

-- flags with a count, and its superinterfaces
abbrev pub interface_size : InterfaceEntry → ℕ
interface_size i = 1 + 2 * length i.superinterfaces

-- an interface, and the indices behind their number
abbrev pub map_size : ImplementedInterface → ℕ
map_size m = 3 + length m.index

-- what stands before the tables has ten bytes
abbrev pub class_size : ClassEntry → ℕ
class_size c = 10 + 2 * length c.public_methods + 2 * length c.package_methods + sum_by map_size c.interfaces

-- its type, and its values behind the number of their bytes
abbrev pub array_size : ArrayInit → ℕ
array_size a = 3 + length a.values

-- an offset and two counts of one byte
abbrev pub exported_size : ExportedClass → ℕ
exported_size e = 4 + 2 * length e.fields + 2 * length e.methods

-- what stands before the interfaces has nine bytes
abbrev pub described_size : ClassDescriptor → ℕ
described_size d = 9 + 2 * length d.interfaces + 7 * length d.fields + 12 * length d.methods

-- the number of its nibbles, and these in pairs
abbrev pub type_size : TypeDescriptor → ℕ
type_size t = 1 + suc (length t.nibbles) / 2

-- ---- sizes of components: their infos

-- eleven bytes with the lengths of the AID and the name, and these two
abbrev pub header_size : Header → ℕ
header_size h = 11 + length h.aid + length h.name

-- twelve sizes, the three numbers of StaticField, and the numbers of imports, applets and custom components
abbrev pub directory_size : ℕ
directory_size = 33

-- the number of applets, and these
abbrev pub applets_size : Applet → ℕ
applets_size a = 1 + sum_by applet_size a.applets

-- the number of packages, and these
abbrev pub import_size : Import → ℕ
import_size i = 1 + sum_by package_size i.packages

-- the number of entries, and four bytes for each
abbrev pub pool_size : ConstantPool → ℕ
pool_size p = 2 + 4 * length p.entries

-- the length of the signature pool, the interfaces and the classes
abbrev pub class_info_size : ClassInfo → ℕ
class_info_size c = 2 + sum_by interface_size c.interfaces + sum_by class_size c.classes

-- the number of handlers, eight bytes for each, and the methods
abbrev pub method_size : Method → ℕ
method_size m = 1 + 8 * length m.handlers + length m.methods

-- five numbers of two bytes each, the arrays and the values that are not defaults
abbrev pub statics_size : StaticField → ℕ
statics_size s = 10 + sum_by array_size s.array_inits + length s.values

-- two numbers of two bytes, and the distances behind each
abbrev pub locations_size : ReferenceLocation → ℕ
locations_size l = 4 + length l.one_byte + length l.two_byte

-- the number of classes, and these
abbrev pub export_size : Export → ℕ
export_size e = 1 + sum_by exported_size e.classes

-- the number of classes, these, the number of pool entries, an offset for each, and the types
abbrev pub descriptor_size : Descriptor → ℕ
descriptor_size d = 3 + sum_by described_size d.classes + 2 * length d.pool_types + sum_by type_size d.types

-- the size of what is there, 0 of what is absent
abbrev pub size_of : {A : Type 0} → (size : A → ℕ) → Option A → ℕ
size_of size None = 0
size_of size (Some x) = size x

-- The size item of each tag from 1 to 12, 0 where the component is absent; Debug, 12, always is.
abbrev pub size_items : CapTree → List ℕ
size_items cap =
    header_size cap.header
    ∷ directory_size
    ∷ size_of applets_size cap.applet
    ∷ size_of import_size cap.import
    ∷ size_of pool_size cap.pool
    ∷ size_of class_info_size cap.class
    ∷ size_of method_size cap.method
    ∷ size_of statics_size cap.statics
    ∷ size_of locations_size cap.locations
    ∷ size_of export_size cap.export
    ∷ size_of descriptor_size cap.descriptor
    ∷ 0
    ∷ []

-- each component has fewer than 2^32 bytes, its tag and its size counted
pub record IsSmall (cap : CapTree) : Type 0 where
  pub header : 3 + header_size cap.header < 2 ^ 32
  pub directory : 3 + 2 * length cap.directory.component_sizes < 2 ^ 32
  pub applet : 3 + size_of applets_size cap.applet < 2 ^ 32
  pub import : 3 + size_of import_size cap.import < 2 ^ 32
  pub pool : 3 + size_of pool_size cap.pool < 2 ^ 32
  pub class : 3 + size_of class_info_size cap.class < 2 ^ 32
  pub method : 3 + size_of method_size cap.method < 2 ^ 32
  pub statics : 3 + size_of statics_size cap.statics < 2 ^ 32
  pub locations : 3 + size_of locations_size cap.locations < 2 ^ 32
  pub export : 3 + size_of export_size cap.export < 2 ^ 32
  pub descriptor : 3 + size_of descriptor_size cap.descriptor < 2 ^ 32

-- the same of components of which only Applet and Export may be absent
pub record AreSmall (c : Complete) : Type 0 where
  pub applet : 3 + size_of applets_size c.applet < 2 ^ 32
  pub import : 3 + import_size c.import < 2 ^ 32
  pub pool : 3 + pool_size c.pool < 2 ^ 32
  pub class : 3 + class_info_size c.class < 2 ^ 32
  pub method : 3 + method_size c.method < 2 ^ 32
  pub statics : 3 + statics_size c.statics < 2 ^ 32
  pub locations : 3 + locations_size c.locations < 2 ^ 32
  pub export : 3 + size_of export_size c.export < 2 ^ 32
  pub descriptor : 3 + descriptor_size c.descriptor < 2 ^ 32
