-- The files of a tree that can be written and keeps its limits spell it.
use Rattle.std.proofs.Common.{◌≡◌, ℕ, ◌≤◌, Bool, true, false, cond, ltb, List, length, Option, Some, None, refl, arith}
use Rattle.std.specs.Prelude.{IfSome, IsSomeAnd, is_some}
use Rattle.std.proofs.lemmas.Bool.{ltb-false, or_parts}
use Rattle.cjc_capread.specs.declared.tree.CapTree.{CapTree}
use Rattle.cjc_capread.specs.declared.tree.Component.{Component}
use Rattle.cjc_capread.specs.declared.tree.Component.TheVariants as components
use Rattle.cjc_capwrite.specs.Package.{applet_bytes, import_bytes}
use Rattle.cjc_capwrite.specs.Pool.{pool_bytes}
use Rattle.cjc_capwrite.specs.Class.{class_info_bytes}
use Rattle.cjc_capwrite.specs.Method.{method_bytes}
use Rattle.cjc_capwrite.specs.Statics.{static_field_bytes, reference_location_bytes}
use Rattle.cjc_capwrite.specs.Export.{export_bytes}
use Rattle.cjc_capwrite.specs.Descriptor.{descriptor_bytes}
use Rattle.cjc_capwrite.specs.Fits.{Fits2, AppletFits, ImportFits, PoolFits, ClassInfoFits, MethodFits, StaticFieldFits}
use Rattle.cjc_capwrite.specs.Fits.{LocationsFit, ExportFits, DescriptorFits}
use Rattle.cjc_capwrite.specs.Files.{Infos, part, infos_of, file, file_where, files_of, ends_too_far, is_long}
use Rattle.cjc_capwrite.specs.Files.{is_too_large, limit_of}
use Rattle.cjc_capwrite.specs.Writable.{IsWritable, Spelt, SpeltWhere, IsSpelt}
use Rattle.cjc_capwrite.proofs.FilesWritten.{header_spells, directory_spells, applet_spells, import_spells, pool_spells}
use Rattle.cjc_capwrite.proofs.FilesWritten.{class_spells, method_spells, statics_spell, locations_spell, export_spells}
use Rattle.cjc_capwrite.proofs.FilesWritten.{descriptor_spells}

-- ---- sizes within the limits

short : (info : List ℕ) → is_long info ≡ false → Fits2 (length info)
short info e = let le : length info ≤ 65535 = ltb-false 65535 (length info) e in omega arith

unbroken : (types large : Bool) → cond {A = Option ℕ} types (Some 411) (cond large (Some 416) None) ≡ None
    → large ≡ false
unbroken true large e = absurd cc
unbroken false true e = absurd cc
unbroken false false e = refl

-- every component but Method has fewer bytes than a size item can count
pub record AreShort (i : Infos) : Type 0 where
  pub header : Fits2 (length i.header)
  pub directory : Fits2 (length i.directory)
  pub applet : Fits2 (length i.applet)
  pub import : Fits2 (length i.import)
  pub pool : Fits2 (length i.pool)
  pub class : Fits2 (length i.class)
  pub statics : Fits2 (length i.statics)
  pub locations : Fits2 (length i.locations)
  pub export : Fits2 (length i.export)
  pub descriptor : Fits2 (length i.descriptor)

are_short : (i : Infos) → is_too_large i ≡ false → AreShort i
are_short i large =
    let class = or_parts _ _ large in
    let header = or_parts _ _ class.1 in
    let directory = or_parts _ _ header.1 in
    let applet = or_parts _ _ directory.1 in
    let import = or_parts _ _ applet.1 in
    let pool = or_parts _ _ import.1 in
    let statics = or_parts _ _ pool.1 in
    let locations = or_parts _ _ statics.1 in
    let export = or_parts _ _ locations.1 in
    let few : length i.class ≤ 32767 = ltb-false 32767 (length i.class) class.0 in
    record {
      header = short i.header header.0;
      directory = short i.directory directory.0;
      applet = short i.applet applet.0;
      import = short i.import import.0;
      pool = short i.pool pool.0;
      class = omega arith;
      statics = short i.statics statics.0;
      locations = short i.locations locations.0;
      export = short i.export export.0;
      descriptor = short i.descriptor export.1;
    }

-- ---- parts of the tree

there_spells : {A : Type 0} (tag : ℕ) (wrap : A → Component) (f : A → List ℕ) (P : A → Type 0)
    → ((x : A) → P x → Fits2 (length (f x)) → Spelt tag (wrap x) (file tag (f x)))
    → (o : Option A) → IsSomeAnd o P → Fits2 (length (part f o))
    → IsSomeAnd o (λ x. Spelt tag (wrap x) (file tag (part f o)))
there_spells tag wrap f P one None fits size = absurd fits
there_spells tag wrap f P one (Some x) fits size = one x fits size

where_spells : {A : Type 0} (tag : ℕ) (wrap : A → Component) (f : A → List ℕ) (P : A → Type 0)
    → ((x : A) → P x → Fits2 (length (f x)) → Spelt tag (wrap x) (file tag (f x)))
    → (o : Option A) → IfSome o P → Fits2 (length (part f o))
    → SpeltWhere tag wrap o (file_where (is_some o) tag (part f o))
where_spells tag wrap f P one None fits size = tt
where_spells tag wrap f P one (Some x) fits size = one x fits size

pub tree_spelt : (t : CapTree) → IsWritable t → limit_of t ≡ None → length (part method_bytes t.method) ≤ 65535
    → IsSpelt t (files_of t)
tree_spelt t fits limits methods =
    let sizes = are_short (infos_of t) (unbroken (ends_too_far t.descriptor) (is_too_large (infos_of t)) limits) in
    record {
      header = header_spells t.header fits.header sizes.header;
      directory = directory_spells t.directory fits.directory sizes.directory;
      applet = where_spells 3 components.Applet applet_bytes AppletFits applet_spells t.applet fits.applet sizes.applet;
      import = there_spells 4 components.Import import_bytes ImportFits import_spells t.import fits.import sizes.import;
      pool = there_spells 5 components.Pool pool_bytes PoolFits pool_spells t.pool fits.pool sizes.pool;
      class = there_spells 6 components.Class class_info_bytes ClassInfoFits class_spells t.class fits.class
          sizes.class;
      method = there_spells 7 components.Method method_bytes MethodFits method_spells t.method fits.method
          (omega arith);
      statics = there_spells 8 components.Statics static_field_bytes StaticFieldFits statics_spell t.statics
          fits.statics sizes.statics;
      locations = there_spells 9 components.Locations reference_location_bytes LocationsFit locations_spell t.locations
          fits.locations sizes.locations;
      export = where_spells 10 components.Export export_bytes ExportFits export_spells t.export fits.export
          sizes.export;
      descriptor = there_spells 11 components.Descriptor descriptor_bytes DescriptorFits descriptor_spells t.descriptor
          fits.descriptor sizes.descriptor;
    }
