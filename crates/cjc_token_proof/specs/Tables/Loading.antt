-- The components of a package as they are loaded by themselves, with names from its class files and the export files
-- that it imports, and what they name then.
use Rattle.std.specs.Prelude.{if◌then◌else◌}
use Rattle.cjc_bytes.specs.AccessFlags.{is_interface}
use Rattle.cjc_card_semantics.specs.Machine.Classes.{Info, IsInterface, IsClass}
use Rattle.cjc_card_semantics.specs.Machine.Loaded.{Loaded, Part}
use Rattle.cjc_components.specs.LowerCheckRules.Complete.{Complete}
use Rattle.cjc_world.specs.Classes.{Class}
use Rattle.cjc_ncode.specs.Lowering.Naming.{Naming}
use Rattle.cjc_components.specs.Package.{Package, has_applets, world}
use Rattle.cjc_components.specs.Class.{class_entry, class_info, interface_entry}
use Rattle.cjc_components.specs.Components.{applet, import, method, reference_location}
use Rattle.cjc_components.specs.Descriptor.{descriptor}
use Rattle.cjc_components.specs.Exports.{export}
use Rattle.cjc_components.specs.Names.{class_ref, naming_over, pool_entries}
use Rattle.cjc_components.specs.Statics.{static_field}
use Rattle.cjc_components.specs.Paired.Naming.{loaded_of, part_of}

-- the components, of which only Applet and Export may be absent
abbrev pub components : Package → Complete
components p = record {
  applet = applet p;
  import = import p;
  pool = record { entries = pool_entries p };
  class = class_info (class_ref p) p;
  method = method p;
  statics = static_field p.image;
  locations = reference_location p;
  export = export p;
  descriptor = descriptor p;
}

-- the package among what is loaded
abbrev pub part : Package → Part
part p = part_of (has_applets p) p.files p.image (components p)

-- it alone, with its export files
abbrev pub loaded : Package → Loaded
loaded p = loaded_of (has_applets p) p.files p.image (components p)

-- what its pool and operands name
abbrev pub naming : Package → Naming
naming p = naming_over (loaded p) (pool_entries p) p

-- the info that is written for a class or interface
abbrev pub info_for : Package → Class → Info
info_for p c = if is_interface c.flags then IsInterface (interface_entry (class_ref p) (world p) c)
    else IsClass (class_entry (class_ref p) p c)
