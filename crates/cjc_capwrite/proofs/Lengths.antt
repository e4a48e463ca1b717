-- How many bytes each part has when it is written.
use Rattle.std.proofs.Common.{◌≡◌, ℕ, ◌+◌, ◌*◌, ◌/◌, ◌^◌, ◌<◌, Bool, true, false, ltb, List, [], ◌∷◌, ◌++◌, length}
use Rattle.std.proofs.Common.{take, get_or, None, refl, ap, ◌∙◌, arith, length-append}
use Rattle.std.specs.List.{flat_map}
use Rattle.std.proofs.lemmas.List.{take_more}
use Rattle.std.proofs.lemmas.Bool.{ltb-true, ltb-false, lt-ltb, le-ltb}
use Rattle.std.proofs.lemmas.Grind.{flat_map-append}
use Rattle.std.proofs.lemmas.List.Concat.{flat_map-cons}
use Rattle.cjc_capread.specs.declared.tree.ClassRef.{ClassRef}
use Rattle.cjc_capread.specs.declared.tree.ClassRef.TheVariants as class_refs
use Rattle.cjc_capread.specs.declared.tree.StaticRef.{StaticRef}
use Rattle.cjc_capread.specs.declared.tree.StaticRef.TheVariants as static_refs
use Rattle.cjc_capread.specs.declared.tree.Header.{Header}
use Rattle.cjc_capread.specs.declared.tree.Directory.{Directory}
use Rattle.cjc_capread.specs.declared.tree.Applet.{Applet}
use Rattle.cjc_capread.specs.declared.tree.AppletEntry.{AppletEntry}
use Rattle.cjc_capread.specs.declared.tree.Import.{Import}
use Rattle.cjc_capread.specs.declared.tree.ImportedPackage.{ImportedPackage}
use Rattle.cjc_capread.specs.declared.tree.ConstantPool.{ConstantPool}
use Rattle.cjc_capread.specs.declared.tree.PoolEntry.{PoolEntry}
use Rattle.cjc_capread.specs.declared.tree.PoolEntry.TheVariants as entries
use Rattle.cjc_capread.specs.declared.tree.ClassInfo.{ClassInfo}
use Rattle.cjc_capread.specs.declared.tree.InterfaceEntry.{InterfaceEntry}
use Rattle.cjc_capread.specs.declared.tree.ClassEntry.{ClassEntry}
use Rattle.cjc_capread.specs.declared.tree.ImplementedInterface.{ImplementedInterface}
use Rattle.cjc_capread.specs.declared.tree.Method.{Method}
use Rattle.cjc_capread.specs.declared.tree.Handler.{Handler}
use Rattle.cjc_capread.specs.declared.tree.StaticField.{StaticField}
use Rattle.cjc_capread.specs.declared.tree.ArrayInit.{ArrayInit}
use Rattle.cjc_capread.specs.declared.tree.ReferenceLocation.{ReferenceLocation}
use Rattle.cjc_capread.specs.declared.tree.Export.{Export}
use Rattle.cjc_capread.specs.declared.tree.ExportedClass.{ExportedClass}
use Rattle.cjc_capread.specs.declared.tree.Descriptor.{Descriptor}
use Rattle.cjc_capread.specs.declared.tree.ClassDescriptor.{ClassDescriptor}
use Rattle.cjc_capread.specs.declared.tree.FieldDescriptor.{FieldDescriptor}
use Rattle.cjc_capread.specs.declared.tree.FieldPlace.{FieldPlace}
use Rattle.cjc_capread.specs.declared.tree.FieldPlace.TheVariants as places
use Rattle.cjc_capread.specs.declared.tree.MethodDescriptor.{MethodDescriptor}
use Rattle.cjc_capread.specs.declared.tree.TypeDescriptor.{TypeDescriptor}
use Rattle.cjc_capwrite.specs.Size.{capped}
use Rattle.cjc_capwrite.specs.Parts.{one, two, class_bytes, static_bytes}
use Rattle.cjc_capwrite.specs.Package.{header_bytes, directory_bytes, applet_entry_bytes, applet_bytes}
use Rattle.cjc_capwrite.specs.Package.{imported_package_bytes, import_bytes}
use Rattle.cjc_capwrite.specs.Pool.{entry_bytes, pool_bytes}
use Rattle.cjc_capwrite.specs.Class.{interface_bytes, implemented_bytes, class_entry_bytes, class_info_bytes}
use Rattle.cjc_capwrite.specs.Method.{handler_bytes, method_bytes}
use Rattle.cjc_capwrite.specs.Statics.{array_init_bytes, static_field_bytes, reference_location_bytes}
use Rattle.cjc_capwrite.specs.Export.{exported_class_bytes, export_bytes}
use Rattle.cjc_capwrite.specs.Descriptor.{place_bytes, type_number, field_bytes, code_bytes, method_descriptor_bytes}
use Rattle.cjc_capwrite.specs.Descriptor.{class_descriptor_bytes, packed, type_bytes, types_bytes, descriptor_bytes}

-- one item more
pub sizes_step : {A : Type 0} (f : A → List ℕ) (xs : List A) (i : ℕ) (d : A) → i < length xs
    → length (flat_map f (take (i + 1) xs)) ≡ length (flat_map f (take i xs)) + length (f (get_or xs i d))
sizes_step {A = A} f xs i d lt =
    let more : flat_map f (take (i + 1) xs) ≡ flat_map f (take i xs) ++ flat_map f (get_or xs i d ∷ []) =
    ap (flat_map f) (take_more xs i d lt) ∙ flat_map-append f (take i xs) (get_or xs i d ∷ []) in
    let last : length (flat_map f (get_or xs i d ∷ [])) ≡ length (f (get_or xs i d)) =
    ap length (flat_map-cons f (get_or xs i d) []) ∙ length-append (f (get_or xs i d)) [] ∙ omega arith in
    ap length more ∙ length-append (flat_map f (take i xs)) (flat_map f (get_or xs i d ∷ [])) ∙ omega (arith, last)

-- items that all have so many bytes
pub length_each : {A : Type 0} (f : A → List ℕ) (n : ℕ) → ((x : A) → length (f x) ≡ n) → (xs : List A)
    → length (flat_map f xs) ≡ n * length xs
length_each f n each [] = omega arith
length_each f n each (x ∷ xs) =
    let e = each x in
    let rest = length_each f n each xs in
    ap length (flat_map-cons f x xs) ∙ length-append (f x) (flat_map f xs) ∙ omega arith

pub two_each : (xs : List ℕ) → length (flat_map two xs) ≡ 2 * length xs
two_each xs = length_each two 2 (λ x. refl) xs

pub class_length : (x : ClassRef) → length (class_bytes x) ≡ 2
class_length (class_refs.Inside n) = refl
class_length (class_refs.Outside imported class) = refl

static_length : (x : StaticRef) → length (static_bytes x) ≡ 3
static_length (static_refs.Inside n) = refl
static_length (static_refs.Outside imported class token) = refl

pub classes_length : (xs : List ClassRef) → length (flat_map class_bytes xs) ≡ 2 * length xs
classes_length xs = length_each class_bytes 2 class_length xs

pub header_length : (x : Header) → length (header_bytes x) ≡ 11 + length x.aid + length x.name
unfolding header_bytes
header_length x = omega (arith, length-append x.aid (one (length x.name) ++ x.name))

pub directory_length : (x : Directory) → length (directory_bytes x) ≡ 9 + 2 * length x.component_sizes
unfolding directory_bytes
directory_length x =
    length-append (flat_map two x.component_sizes) _ ∙ omega (arith, two_each x.component_sizes)

pub applet_entry_length : (x : AppletEntry) → length (applet_entry_bytes x) ≡ 3 + length x.aid
unfolding applet_entry_bytes
applet_entry_length x = omega (arith, length-append x.aid (two x.install_method))

pub imported_package_length : (x : ImportedPackage) → length (imported_package_bytes x) ≡ 3 + length x.aid
unfolding imported_package_bytes
imported_package_length x = omega arith

entry_length : (x : PoolEntry) → length (entry_bytes x) ≡ 4
unfolding entry_bytes
entry_length (entries.Classref class) = omega (arith, class_length class, length-append (class_bytes class) (0 ∷ []))
entry_length (entries.InstanceFieldref class token) = omega (
  arith,
  class_length class,
  length-append (class_bytes class) (token ∷ []),
)
entry_length (entries.VirtualMethodref class token) = omega (
  arith,
  class_length class,
  length-append (class_bytes class) (token ∷ []),
)
entry_length (entries.SuperMethodref class token) = omega (
  arith,
  class_length class,
  length-append (class_bytes class)
      (token ∷ []),
)
entry_length (entries.StaticFieldref member) = omega (arith, static_length member)
entry_length (entries.StaticMethodref member) = omega (arith, static_length member)

pub pool_length : (x : ConstantPool) → length (pool_bytes x) ≡ 2 + 4 * length x.entries
unfolding pool_bytes
pool_length x = omega (arith, length_each entry_bytes 4 entry_length x.entries)

pub interface_length : (x : InterfaceEntry) → length (interface_bytes x) ≡ 1 + 2 * length x.superinterfaces
unfolding interface_bytes
interface_length x = omega (arith, classes_length x.superinterfaces)

pub implemented_length : (x : ImplementedInterface) → length (implemented_bytes x) ≡ 3 + length x.index
unfolding implemented_bytes
implemented_length x = omega (
  arith,
  length-append (class_bytes x.interface) (one (length x.index) ++ x.index),
  class_length x.interface,
)

pub class_entry_length : (x : ClassEntry) → length (class_entry_bytes x) ≡ 10 + 2 * length x.public_methods + 2 * length
    x.package_methods + length (flat_map implemented_bytes x.interfaces)
unfolding class_entry_bytes
class_entry_length x =
    let tables = flat_map two x.public_methods ++ (flat_map two x.package_methods
    ++ flat_map implemented_bytes x.interfaces) in
    let outer : length tables ≡ length (flat_map two x.public_methods) + length (flat_map two x.package_methods
    ++ flat_map implemented_bytes x.interfaces) = length-append _ _ in
    let inner : length (flat_map two x.package_methods ++ flat_map implemented_bytes x.interfaces)
    ≡ length (flat_map two x.package_methods) + length (flat_map implemented_bytes x.interfaces) = length-append _ _
    in
    omega (
      arith,
      length-append (class_bytes x.superclass) (x.declared_instance_size ∷ x.first_reference_token
          ∷ x.reference_count ∷ x.public_base ∷ (one (length x.public_methods)
          ++ (x.package_base ∷ (one (length x.package_methods) ++ tables)))),
      class_length x.superclass,
      two_each x.public_methods,
      two_each x.package_methods,
      outer,
      inner,
    )

pub class_info_length : (x : ClassInfo) → length (class_info_bytes x)
    ≡ 2 + length (flat_map interface_bytes x.interfaces) + length (flat_map class_entry_bytes x.classes)
unfolding class_info_bytes
class_info_length x = omega (
  arith,
  length-append (flat_map interface_bytes x.interfaces) (flat_map class_entry_bytes
      x.classes),
)

handler_length : (x : Handler) → length (handler_bytes x) ≡ 8
unfolding handler_bytes
handler_length x = refl

pub method_length : (x : Method) → length (method_bytes x) ≡ 1 + 8 * length x.handlers + length x.methods
unfolding method_bytes
method_length x = omega (
  arith,
  length-append (flat_map handler_bytes x.handlers) x.methods,
  length_each handler_bytes 8 handler_length x.handlers,
)

pub array_init_length : (x : ArrayInit) → length (array_init_bytes x) ≡ 3 + length x.values
unfolding array_init_bytes
array_init_length x = omega arith

pub static_field_length : (x : StaticField) → length (static_field_bytes x)
    ≡ 10 + length (flat_map array_init_bytes x.array_inits) + length x.values
unfolding static_field_bytes
static_field_length x = omega (
  arith,
  length-append (flat_map array_init_bytes x.array_inits) (two x.default_value_count
      ++ (two (length x.values) ++ x.values)),
)

pub locations_length : (x : ReferenceLocation) → length (reference_location_bytes x) ≡ 4 + length x.one_byte + length
    x.two_byte
unfolding reference_location_bytes
locations_length x = omega (arith, length-append x.one_byte (two (length x.two_byte) ++ x.two_byte))

pub exported_class_length : (x : ExportedClass) → length (exported_class_bytes x) ≡ 4 + 2 * length x.fields + 2 * length
    x.methods
unfolding exported_class_bytes
exported_class_length x = omega (
  arith,
  length-append (flat_map two x.fields) (flat_map two x.methods),
  two_each x.fields,
  two_each x.methods,
)

place_length : (x : FieldPlace) → length (place_bytes x) ≡ 3
place_length (places.Static offset) = refl
place_length (places.Instance class token) = omega (
  arith,
  length-append (class_bytes class) (token ∷ []),
  class_length class,
)

field_length : (x : FieldDescriptor) → length (field_bytes x) ≡ 7
unfolding field_bytes
field_length x = omega (arith, length-append (place_bytes x.place) (two (type_number x.type_)), place_length x.place)

method_descriptor_length : (x : MethodDescriptor) → length (method_descriptor_bytes x) ≡ 12
unfolding method_descriptor_bytes code_bytes
method_descriptor_length x = refl

pub class_descriptor_length : (x : ClassDescriptor) → length (class_descriptor_bytes x) ≡ 9 + 2 * length x.interfaces +
    7 * length x.fields + 12 * length x.methods
unfolding class_descriptor_bytes
class_descriptor_length x =
    let fields = flat_map field_bytes x.fields in
    let methods = flat_map method_descriptor_bytes x.methods in
    let interfaces = flat_map class_bytes x.interfaces in
    let outer : length (interfaces ++ (fields ++ methods)) ≡ length interfaces + length (fields ++ methods) =
    length-append _ _ in
    let inner : length (fields ++ methods) ≡ length fields + length methods = length-append _ _ in
    let counts = one (length x.interfaces) ++ (two (length x.fields) ++ (two (length x.methods)
    ++ (interfaces ++ (fields ++ methods)))) in
    omega (
      arith,
      length-append (class_bytes x.this_class) counts,
      class_length x.this_class,
      outer,
      inner,
      classes_length x.interfaces,
      length_each field_bytes 7 field_length x.fields,
      length_each method_descriptor_bytes 12 method_descriptor_length x.methods,
    )

packed_length : (ns : List ℕ) → length (packed None ns) ≡ (length ns + 1) / 2
packed_length [] = refl
packed_length (a ∷ []) = refl
packed_length (a ∷ b ∷ ns) = omega (arith, packed_length ns)

pub type_length : (x : TypeDescriptor) → length (type_bytes x) ≡ 1 + (length x.nibbles + 1) / 2
unfolding type_bytes
type_length x = omega (arith, packed_length x.nibbles)

pub types_length : (x : Descriptor) → length (types_bytes x) ≡ 2 + 2 * length x.pool_types + length
    (flat_map type_bytes x.types)
unfolding types_bytes
types_length x = omega (
  arith,
  length-append (flat_map two x.pool_types) (flat_map type_bytes x.types),
  two_each x.pool_types,
)

pub descriptor_length : (x : Descriptor) → length (descriptor_bytes x)
    ≡ 1 + length (flat_map class_descriptor_bytes x.classes) + length (types_bytes x)
unfolding descriptor_bytes
descriptor_length x = omega (arith, length-append (flat_map class_descriptor_bytes x.classes) (types_bytes x))

-- a limit of 16 bits is passed by a size exactly where the size that is told passes it
pub above_capped : (limit n : ℕ) → limit < 2 ^ 16 → ltb limit (capped n) ≡ ltb limit n
above_capped limit n small = go (ltb limit n) refl
  where
    go : (b : Bool) → ltb limit n ≡ b → ltb limit (capped n) ≡ b
    go true e = let lt = ltb-true limit n e in lt-ltb limit (capped n) (omega arith)
    go false e = let le = ltb-false limit n e in le-ltb limit (capped n) (omega arith)

pub applet_length : (x : Applet) → length (applet_bytes x) ≡ 1 + length (flat_map applet_entry_bytes x.applets)
unfolding applet_bytes
applet_length x = omega arith

pub import_length : (x : Import) → length (import_bytes x) ≡ 1 + length (flat_map imported_package_bytes x.packages)
unfolding import_bytes
import_length x = omega arith

pub export_length : (x : Export) → length (export_bytes x) ≡ 1 + length (flat_map exported_class_bytes x.classes)
unfolding export_bytes
export_length x = omega arith
