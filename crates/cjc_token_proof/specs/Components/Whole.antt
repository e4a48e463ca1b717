-- The components of a package, of which only Applet and Export may be absent, as sentences on components have them.
use Rattle.std.specs.Prelude.{List}
use Rattle.cjc_world.specs.ExportFile.declared.tree.ExportTree.{ExportTree}
use Rattle.cjc_components.specs.LowerCheckRules.Complete.{Complete}
use Rattle.cjc_components.specs.Package.{Package}
use Rattle.cjc_components.specs.Class.{class_info}
use Rattle.cjc_components.specs.Statics.{static_field}
use Rattle.cjc_components.specs.Names.{class_ref, pool_entries}
use Rattle.cjc_components.specs.Descriptor.{descriptor}
use Rattle.cjc_components.specs.Exports.{export}
use Rattle.cjc_components.specs.Components.{applet, import, method, reference_location}

-- the export files of the list
abbrev pub exports_of : Package → List ExportTree
exports_of p = let files = p.files in files.exports

-- what is written, Header and Directory aside
abbrev pub whole : Package → Complete
whole p = record {
  applet = applet p;
  import = import p;
  pool = record { entries = pool_entries p };
  class = class_info (class_ref p) p;
  method = method p;
  statics = static_field p.image;
  locations = reference_location p;
  export = export p;
  descriptor = descriptor p;
}
