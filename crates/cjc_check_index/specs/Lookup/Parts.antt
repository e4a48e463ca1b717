-- The components as code holds them, one by one, and the complete package that they are.
use Rattle.cjc_check_index.specs.declared.lookup.parts.Parts.{Parts}
use Rattle.cjc_check_rules.specs.Complete.{Complete}

-- the components that are held, Header and Directory aside
abbrev pub complete_of : Parts → Complete
complete_of p = record {
  applet = p.applet.now;
  import = p.import.now;
  pool = p.pool.now;
  class = p.class.now;
  method = p.method.now;
  statics = p.statics.now;
  locations = p.locations.now;
  export = p.export.now;
  descriptor = p.descriptor.now;
}
