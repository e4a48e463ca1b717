use Rattle.std.proofs.Common.{◌≡◌, ◌++◌, drop}
use Rattle.cjc_world.specs.Working.Known.{class_of}
use Rattle.cjc_components.specs.ExportFile.{fields_from}
use Rattle.cjc_exported.specs.ExportFile.Working.Sources.{package_in}
use Rattle.cjc_exported.proofs.export_file.fields.put_fields.Given as goal

abbrev pub invariant-loop-place : goal.invariant-loop-place
invariant-loop-place l = l.fields ++ fields_from (package_in l.source) (class_of l.class) l.place (drop l.place l.trees)
    ≡ l.fn.fields ++ fields_from (package_in l.source) (class_of l.class) 0 l.trees
