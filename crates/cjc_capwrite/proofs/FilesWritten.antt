-- A file of what spells an info spells the component.
use Rattle.std.proofs.Common.{◌≡◌, ℕ, ◌+◌, true, eqb, List, length, Some, refl, arith}
use Rattle.std.proofs.lemmas.Bool.{eq-eqb}
use Rattle.cjc_capread.specs.Bytes.Format.{FileSpells}
use Rattle.cjc_capread.proofs.BytesWriters.{Writes, then_writes, last_writes, number1_writes}
use Rattle.cjc_capread.specs.declared.tree.Component.{Component}
use Rattle.cjc_capread.specs.declared.tree.Component.TheVariants as components
use Rattle.cjc_capread.specs.declared.tree.Header.{Header}
use Rattle.cjc_capread.specs.declared.tree.Directory.{Directory}
use Rattle.cjc_capread.specs.declared.tree.Applet.{Applet}
use Rattle.cjc_capread.specs.declared.tree.Import.{Import}
use Rattle.cjc_capread.specs.declared.tree.ConstantPool.{ConstantPool}
use Rattle.cjc_capread.specs.declared.tree.ClassInfo.{ClassInfo}
use Rattle.cjc_capread.specs.declared.tree.Method.{Method}
use Rattle.cjc_capread.specs.declared.tree.StaticField.{StaticField}
use Rattle.cjc_capread.specs.declared.tree.ReferenceLocation.{ReferenceLocation}
use Rattle.cjc_capread.specs.declared.tree.Export.{Export}
use Rattle.cjc_capread.specs.declared.tree.Descriptor.{Descriptor}
use Rattle.cjc_capread.specs.Parts.{exactly}
use Rattle.cjc_capread.specs.Component.{info, size_in, component}
use Rattle.cjc_capwrite.specs.Package.{header_bytes, directory_bytes, applet_bytes, import_bytes}
use Rattle.cjc_capwrite.specs.Pool.{pool_bytes}
use Rattle.cjc_capwrite.specs.Class.{class_info_bytes}
use Rattle.cjc_capwrite.specs.Method.{method_bytes}
use Rattle.cjc_capwrite.specs.Statics.{static_field_bytes, reference_location_bytes}
use Rattle.cjc_capwrite.specs.Export.{export_bytes}
use Rattle.cjc_capwrite.specs.Descriptor.{descriptor_bytes}
use Rattle.cjc_capwrite.specs.Fits.{Fits2, HeaderFits, DirectoryFits, AppletFits, ImportFits, PoolFits, ClassInfoFits}
use Rattle.cjc_capwrite.specs.Fits.{MethodFits, StaticFieldFits, LocationsFit, ExportFits, DescriptorFits}
use Rattle.cjc_capwrite.specs.Files.{file}
use Rattle.cjc_capwrite.proofs.PartsWritten.{table_writes}
use Rattle.cjc_capwrite.proofs.PackageWritten.{header_writes, directory_writes, applet_writes, import_writes}
use Rattle.cjc_capwrite.proofs.PoolWritten.{pool_writes}
use Rattle.cjc_capwrite.proofs.ClassWritten.{class_info_writes}
use Rattle.cjc_capwrite.proofs.DescriptorWritten.{descriptor_writes}
use Rattle.cjc_capwrite.proofs.StaticsWritten.{method_writes, static_field_writes, locations_write, export_writes}

-- so many bytes has the file
length-file : (tag : ℕ) (bytes : List ℕ) → length (file tag bytes) ≡ 3 + length bytes
unfolding file
length-file tag bytes = omega arith

tagged : (tag : ℕ) → exactly tag tag ≡ Some tag
tagged tag = let same : eqb tag tag ≡ true = eq-eqb tag tag refl in rw same refl

sized : (n : ℕ) → size_in (3 + n) n ≡ Some n
sized n = let same : eqb (n + 3) (3 + n) ≡ true = eq-eqb _ _ (omega arith) in rw same refl

pub file_spells : (tag : ℕ) (x : Component) (bytes : List ℕ) → Fits2 (length bytes)
    → Writes (info tag (3 + length bytes)) 3 x bytes → FileSpells (component tag (length (file tag bytes))) x
    (file tag bytes)
unfolding file component
file_spells tag x bytes fits h =
    let whole : Writes (component tag (3 + length bytes)) 0 x (file tag bytes) =
    then_writes (number1_writes (exactly tag) 0 tag tag (tagged tag))
    (then_writes (table_writes (size_in (3 + length bytes)) _ (length bytes) (length bytes) fits
    (sized (length bytes))) h) in
    rw (length-file tag bytes) whole.spells

pub header_spells : (x : Header) → HeaderFits x → Fits2 (length (header_bytes x))
    → FileSpells (component 1 (length (file 1 (header_bytes x)))) (components.Header x) (file 1 (header_bytes x))
unfolding info
header_spells x fits size = file_spells 1 (components.Header x) (header_bytes x) size
    (last_writes (header_writes 3 x fits) refl)

pub directory_spells : (x : Directory) → DirectoryFits x → Fits2 (length (directory_bytes x))
    → FileSpells (component 2 (length (file 2 (directory_bytes x)))) (components.Directory x)
    (file 2 (directory_bytes x))
unfolding info
directory_spells x fits size = file_spells 2 (components.Directory x) (directory_bytes x) size
    (last_writes (directory_writes 3 x fits) refl)

pub applet_spells : (x : Applet) → AppletFits x → Fits2 (length (applet_bytes x))
    → FileSpells (component 3 (length (file 3 (applet_bytes x)))) (components.Applet x) (file 3 (applet_bytes x))
unfolding info
applet_spells x fits size = file_spells 3 (components.Applet x) (applet_bytes x) size
    (last_writes (applet_writes 3 x fits) refl)

pub import_spells : (x : Import) → ImportFits x → Fits2 (length (import_bytes x))
    → FileSpells (component 4 (length (file 4 (import_bytes x)))) (components.Import x) (file 4 (import_bytes x))
unfolding info
import_spells x fits size = file_spells 4 (components.Import x) (import_bytes x) size
    (last_writes (import_writes 3 x fits) refl)

pub pool_spells : (x : ConstantPool) → PoolFits x → Fits2 (length (pool_bytes x))
    → FileSpells (component 5 (length (file 5 (pool_bytes x)))) (components.Pool x) (file 5 (pool_bytes x))
unfolding info
pool_spells x fits size = file_spells 5 (components.Pool x) (pool_bytes x) size (last_writes (pool_writes 3 x fits)
    refl)

pub class_spells : (x : ClassInfo) → ClassInfoFits x → Fits2 (length (class_info_bytes x))
    → FileSpells (component 6 (length (file 6 (class_info_bytes x)))) (components.Class x) (file 6 (class_info_bytes x))
unfolding info
class_spells x fits size = file_spells 6 (components.Class x) (class_info_bytes x) size
    (last_writes (class_info_writes 3 (3 + length (class_info_bytes x)) x refl fits) refl)

pub method_spells : (x : Method) → MethodFits x → Fits2 (length (method_bytes x))
    → FileSpells (component 7 (length (file 7 (method_bytes x)))) (components.Method x) (file 7 (method_bytes x))
unfolding info
method_spells x fits size = file_spells 7 (components.Method x) (method_bytes x) size
    (last_writes (method_writes 3 (3 + length (method_bytes x)) x refl fits) refl)

pub statics_spell : (x : StaticField) → StaticFieldFits x → Fits2 (length (static_field_bytes x))
    → FileSpells (component 8 (length (file 8 (static_field_bytes x)))) (components.Statics x)
    (file 8 (static_field_bytes x))
unfolding info
statics_spell x fits size = file_spells 8 (components.Statics x) (static_field_bytes x) size
    (last_writes (static_field_writes 3 x fits) refl)

pub locations_spell : (x : ReferenceLocation) → LocationsFit x → Fits2 (length (reference_location_bytes x))
    → FileSpells (component 9 (length (file 9 (reference_location_bytes x)))) (components.Locations x)
    (file 9 (reference_location_bytes x))
unfolding info
locations_spell x fits size = file_spells 9 (components.Locations x) (reference_location_bytes x) size
    (last_writes (locations_write 3 x fits) refl)

pub export_spells : (x : Export) → ExportFits x → Fits2 (length (export_bytes x))
    → FileSpells (component 10 (length (file 10 (export_bytes x)))) (components.Export x) (file 10 (export_bytes x))
unfolding info
export_spells x fits size = file_spells 10 (components.Export x) (export_bytes x) size
    (last_writes (export_writes 3 x fits) refl)

pub descriptor_spells : (x : Descriptor) → DescriptorFits x → Fits2 (length (descriptor_bytes x))
    → FileSpells (component 11 (length (file 11 (descriptor_bytes x)))) (components.Descriptor x)
    (file 11 (descriptor_bytes x))
unfolding info
descriptor_spells x fits size = file_spells 11 (components.Descriptor x) (descriptor_bytes x) size
    (last_writes (descriptor_writes 3 (3 + length (descriptor_bytes x)) x refl fits) refl)
