-- The size of a component by its items is the number of its bytes.
use Rattle.std.proofs.Common.{◌≡◌, ℕ, ◌+◌, ◌*◌, List, length, refl, ap, ◌∙◌, arith}
use Rattle.std.specs.Prelude.{Option, Some, None, flat_map, sum_by}
use Rattle.cjc_card_semantics.specs.CapRead.declared.tree.Header.{Header}
use Rattle.cjc_card_semantics.specs.CapRead.declared.tree.Applet.{Applet}
use Rattle.cjc_card_semantics.specs.CapRead.declared.tree.Import.{Import}
use Rattle.cjc_card_semantics.specs.CapRead.declared.tree.ConstantPool.{ConstantPool}
use Rattle.cjc_card_semantics.specs.CapRead.declared.tree.ClassEntry.{ClassEntry}
use Rattle.cjc_card_semantics.specs.CapRead.declared.tree.ClassInfo.{ClassInfo}
use Rattle.cjc_card_semantics.specs.CapRead.declared.tree.Method.{Method}
use Rattle.cjc_card_semantics.specs.CapRead.declared.tree.StaticField.{StaticField}
use Rattle.cjc_card_semantics.specs.CapRead.declared.tree.ReferenceLocation.{ReferenceLocation}
use Rattle.cjc_card_semantics.specs.CapRead.declared.tree.Export.{Export}
use Rattle.cjc_card_semantics.specs.CapRead.declared.tree.TypeDescriptor.{TypeDescriptor}
use Rattle.cjc_card_semantics.specs.CapRead.declared.tree.Descriptor.{Descriptor}
use Rattle.cjc_components.specs.LowerCapWrite.Package.{header_bytes, applet_entry_bytes, applet_bytes}
use Rattle.cjc_components.specs.LowerCapWrite.Package.{imported_package_bytes}
use Rattle.cjc_components.specs.LowerCapWrite.Package.{import_bytes}
use Rattle.cjc_components.specs.LowerCapWrite.Pool.{pool_bytes}
use Rattle.cjc_components.specs.LowerCapWrite.Class.{interface_bytes, implemented_bytes, class_entry_bytes}
use Rattle.cjc_components.specs.LowerCapWrite.Class.{class_info_bytes}
use Rattle.cjc_components.specs.LowerCapWrite.Method.{method_bytes}
use Rattle.cjc_components.specs.LowerCapWrite.Statics.{array_init_bytes, static_field_bytes, reference_location_bytes}
use Rattle.cjc_components.specs.LowerCapWrite.Export.{exported_class_bytes, export_bytes}
use Rattle.cjc_components.specs.LowerCapWrite.Descriptor.{class_descriptor_bytes, type_bytes, types_bytes}
use Rattle.cjc_components.specs.LowerCapWrite.Descriptor.{descriptor_bytes}
use Rattle.cjc_components.specs.LowerCapWrite.Files.{part}
use Rattle.cjc_components.proofs.CapWriteLengths.{header_length, applet_entry_length, applet_length}
use Rattle.cjc_components.proofs.CapWriteLengths.{imported_package_length}
use Rattle.cjc_components.proofs.CapWriteLengths.{import_length, pool_length, interface_length, implemented_length}
use Rattle.cjc_components.proofs.CapWriteLengths.{class_entry_length, class_info_length, method_length}
use Rattle.cjc_components.proofs.CapWriteLengths.{array_init_length}
use Rattle.cjc_components.proofs.CapWriteLengths.{static_field_length, locations_length, exported_class_length}
use Rattle.cjc_components.proofs.CapWriteLengths.{export_length}
use Rattle.cjc_components.proofs.CapWriteLengths.{class_descriptor_length, type_length, types_length}
use Rattle.cjc_components.proofs.CapWriteLengths.{descriptor_length}
use Rattle.cjc_components.specs.LowerCheckRules.Complete.{applet_size, package_size, interface_size, map_size}
use Rattle.cjc_components.specs.LowerCheckRules.Complete.{class_size, array_size}
use Rattle.cjc_components.specs.LowerCheckRules.Complete.{exported_size, described_size, type_size, header_size}
use Rattle.cjc_components.specs.LowerCheckRules.Complete.{applets_size}
use Rattle.cjc_components.specs.LowerCheckRules.Complete.{import_size, pool_size, class_info_size, method_size}
use Rattle.cjc_components.specs.LowerCheckRules.Complete.{statics_size}
use Rattle.cjc_components.specs.LowerCheckRules.Complete.{locations_size, export_size, descriptor_size, size_of}
use Rattle.cjc_bytes.proofs.Lists.{each_size}

-- of what may be absent
pub part_size : {A : Type 0} (f : A → List ℕ) (size : A → ℕ) → ((x : A) → length (f x) ≡ size x) → (x : Option A)
    → length (part f x) ≡ size_of size x
part_size f size h None = refl
part_size f size h (Some x) = h x

pub header_is : (x : Header) → length (header_bytes x) ≡ header_size x
header_is x = header_length x

pub applets_are : (x : Applet) → length (applet_bytes x) ≡ applets_size x
applets_are x = applet_length x ∙ ap (λ n. 1 + n) (each_size applet_entry_bytes applet_size applet_entry_length
    x.applets)

pub import_is : (x : Import) → length (import_bytes x) ≡ import_size x
import_is x = import_length x ∙ ap (λ n. 1 + n) (each_size imported_package_bytes package_size imported_package_length
    x.packages)

pub pool_is : (x : ConstantPool) → length (pool_bytes x) ≡ pool_size x
pool_is x = pool_length x

pub class_is : (x : ClassEntry) → length (class_entry_bytes x) ≡ class_size x
class_is x =
    class_entry_length x ∙ ap (λ n. 10 + 2 * length x.public_methods + 2 * length x.package_methods + n)
    (each_size implemented_bytes map_size implemented_length x.interfaces)

pub classes_are : (x : ClassInfo) → length (class_info_bytes x) ≡ class_info_size x
classes_are x =
    let i : length (flat_map interface_bytes x.interfaces) ≡ sum_by interface_size x.interfaces =
    each_size interface_bytes interface_size interface_length x.interfaces in
    let c : length (flat_map class_entry_bytes x.classes) ≡ sum_by class_size x.classes =
    each_size class_entry_bytes class_size class_is x.classes in
    class_info_length x ∙ omega (arith, i, c)

pub method_is : (x : Method) → length (method_bytes x) ≡ method_size x
method_is x = method_length x

pub statics_are : (x : StaticField) → length (static_field_bytes x) ≡ statics_size x
statics_are x =
    let a : length (flat_map array_init_bytes x.array_inits) ≡ sum_by array_size x.array_inits =
    each_size array_init_bytes array_size array_init_length x.array_inits in
    static_field_length x ∙ omega (arith, a)

pub locations_are : (x : ReferenceLocation) → length (reference_location_bytes x) ≡ locations_size x
locations_are x = locations_length x

pub export_is : (x : Export) → length (export_bytes x) ≡ export_size x
export_is x = export_length x ∙ ap (λ n. 1 + n) (each_size exported_class_bytes exported_size exported_class_length
    x.classes)

pub type_is : (x : TypeDescriptor) → length (type_bytes x) ≡ type_size x
type_is x = type_length x ∙ omega arith

pub descriptor_is : (x : Descriptor) → length (descriptor_bytes x) ≡ descriptor_size x
descriptor_is x =
    let c : length (flat_map class_descriptor_bytes x.classes) ≡ sum_by described_size x.classes =
    each_size class_descriptor_bytes described_size class_descriptor_length x.classes in
    let t : length (flat_map type_bytes x.types) ≡ sum_by type_size x.types = each_size type_bytes type_size type_is
    x.types in
    let l : length (types_bytes x) ≡ 2 + 2 * length x.pool_types + length (flat_map type_bytes x.types) = types_length x
    in
    descriptor_length x ∙ omega (arith, c, t, l)
