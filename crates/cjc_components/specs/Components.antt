-- All components of a package, as they are written (Java Card Virtual Machine Specification 2.2.2, chapter 6).
use Rattle.std.specs.Prelude.{ℕ, ◌+◌, List, [], ◌∷◌, ◌++◌, map, flat_map, length, replicate, Bool, false, ◌||◌}
use Rattle.std.specs.Prelude.{if◌then◌else◌, Option, Some, None, is_some, codes}
use Rattle.std.specs.List.{list_any}
use Rattle.cjc_list.specs.Bytes.declared.settings.AppletLine.{AppletLine}
use Rattle.cjc_capwrite.specs.CapRead.declared.tree.Header.{Header}
use Rattle.cjc_capwrite.specs.CapRead.declared.tree.Directory.{Directory}
use Rattle.cjc_capwrite.specs.CapRead.declared.tree.Applet.{Applet}
use Rattle.cjc_capwrite.specs.CapRead.declared.tree.AppletEntry.{AppletEntry}
use Rattle.cjc_capwrite.specs.CapRead.declared.tree.Import.{Import}
use Rattle.cjc_capwrite.specs.CapRead.declared.tree.ImportedPackage.{ImportedPackage}
use Rattle.cjc_capwrite.specs.CapRead.declared.tree.Method.{Method}
use Rattle.cjc_capwrite.specs.CapRead.declared.tree.ReferenceLocation.{ReferenceLocation}
use Rattle.cjc_capwrite.specs.CapRead.declared.tree.CapTree.{CapTree}
use Rattle.cjc_capwrite.specs.Size.{info_of}
use Rattle.cjc_check_rules.specs.ExportFile.declared.tree.ExportTree.{ExportTree}
use Rattle.cjc_check_rules.specs.Locations.{distances, catch_places}
use Rattle.cjc_check_rules.specs.Listed.{array_bytes, applet_count}
use Rattle.cjc_clinit.specs.World.Lookup.{find_method}
use Rattle.cjc_clinit.specs.World.Classes.{Class}
use Rattle.cjc_clinit.specs.Subset.Types.{is_int_desc}
use Rattle.cjc_emit.specs.NCode.Lowering.Placed.{Placed}
use Rattle.cjc_emit.specs.NCode.Lowering.Package.{all_bytes, all_handlers}
use Rattle.cjc_emit.specs.Emitted.{code_places}
use Rattle.cjc_components.specs.Package.{Package, world, has_applets}
use Rattle.cjc_components.specs.Methods.{placed_methods}
use Rattle.cjc_components.specs.Class.{class_info}
use Rattle.cjc_components.specs.Statics.{static_field}
use Rattle.cjc_components.specs.Names.{class_ref, names, pool_entries, offset_where}
use Rattle.cjc_components.specs.Descriptor.{descriptor, methods_with_added}
use Rattle.cjc_components.specs.Exports.{export}

-- ---- Header (section 6.3)

-- a descriptor of a field or method of the class names int; those of constants and of methods that it got count too
abbrev pub has_int : List Class → Class → Bool
has_int w c = list_any (λ f. is_int_desc f.desc) c.fields || list_any (λ m. is_int_desc m.desc) (methods_with_added w c)

-- some class of the package has one
abbrev pub uses_int : List Class → Bool
uses_int w = list_any (λ c. if c.is_imported then false else has_int w c) w

-- ACC_INT, ACC_EXPORT and ACC_APPLET
abbrev pub header_flags : (int export applet : Bool) → ℕ
header_flags int export applet = (if int then 1 else 0) + (if export then 2 else 0) + (if applet then 4 else 0)

-- the package by its name, version and AID
abbrev pub header : Package → Header
header p = let list = p.list in record {
  flags = header_flags (uses_int (world p)) (is_some (export p)) (has_applets p);
  minor = list.minor;
  major = list.major;
  aid = list.aid;
  name = list.package;
}

-- ---- Applet (section 6.5)

-- an applet with the offset of the install method of its class
abbrev pub applet_entry : Package → AppletLine → AppletEntry
applet_entry p a = record {
  aid = a.aid;
  install_method = offset_where p (find_method (world p) a.class (codes "install") (codes "([BSB)V"));
}

-- there where the list has an applet line
abbrev pub applet_with : Package → List AppletLine → Option Applet
applet_with p [] = None
applet_with p (a ∷ applets) = Some (record { applets = map (applet_entry p) (a ∷ applets) })

-- Applet, in the order of the list.
abbrev pub applet : Package → Option Applet
applet p = let list = p.list in applet_with p list.applets

-- ---- Import (section 6.6)

-- a package by its export file
abbrev pub imported_package : ExportTree → ImportedPackage
imported_package t = record { minor = t.minor; major = t.major; aid = t.aid }

-- Import: the packages of the export files, in the order of the list.
abbrev pub import : Package → Import
import p = let files = p.files in record { packages = map imported_package files.exports }

-- ---- Method (section 6.9)

-- Method: the handlers of all methods, and their bytes one behind the other.
abbrev pub method : Package → Method
method p = record {
  handlers = all_handlers (names p) (placed_methods p);
  methods = all_bytes (names p) (placed_methods p);
}

-- ---- ReferenceLocation (section 6.11)

-- where the indices of so many bytes stand in the code of a method
abbrev pub places_in : Package → (bytes : ℕ) → Placed → List ℕ
places_in p bytes m = let code = m.method in code_places (names p) bytes (m.offset + length m.header) code.insns m.wide

-- ReferenceLocation: the distances between the indices of one byte, and between those of two; catch indices stand
-- before all methods.
abbrev pub reference_location : Package → ReferenceLocation
reference_location p = let m = method p in record {
  one_byte = distances 0 (flat_map (places_in p 1) (placed_methods p));
  two_byte = distances 0 (catch_places 1 m.handlers ++ flat_map (places_in p 2) (placed_methods p));
}

-- ---- Directory (section 6.4)

-- tags 1 to 12
abbrev pub tags : List ℕ
tags = 1 ∷ 2 ∷ 3 ∷ 4 ∷ 5 ∷ 6 ∷ 7 ∷ 8 ∷ 9 ∷ 10 ∷ 11 ∷ 12 ∷ []

-- Directory with these sizes
abbrev pub directory_with : (sizes : List ℕ) → Package → Directory
directory_with sizes p = let statics = static_field p.image in let files = p.files in record {
  component_sizes = sizes;
  image_size = statics.image_size;
  array_init_count = length statics.array_inits;
  array_init_size = array_bytes statics.array_inits;
  import_count = length files.exports;
  applet_count = applet_count (applet p);
}

-- ---- all

-- all components, where Directory has these sizes
abbrev pub components_with : (sizes : List ℕ) → Package → CapTree
components_with sizes p = record {
  header = header p;
  directory = directory_with sizes p;
  applet = applet p;
  import = Some (import p);
  pool = Some (record { entries = pool_entries p });
  class = Some (class_info (class_ref p) p);
  method = Some (method p);
  statics = Some (static_field p.image);
  locations = Some (reference_location p);
  export = export p;
  descriptor = Some (descriptor p);
}

-- the size of each component; Directory has as many bytes whatever sizes it has
abbrev pub sizes : Package → List ℕ
sizes p = map (λ tag. length (info_of (components_with (replicate 12 0) p) tag)) tags

-- The components of a package.
abbrev pub components_of : Package → CapTree
components_of p = components_with (sizes p) p
