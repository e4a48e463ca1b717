use Rattle.std.proofs.Common.{◌≡◌, ◌++◌, drop, map}
use Rattle.std.specs.Prelude.{filter}
use Rattle.cjc_world.specs.Exported.{is_exported}
use Rattle.cjc_world.specs.Working.Known.{class_of}
use Rattle.cjc_components.specs.ExportFile.{export_class}
use Rattle.cjc_exported.specs.ExportFile.Working.Sources.{package_in, world_in}
use Rattle.cjc_exported.proofs.export_file.tree.classes.Given as goal

abbrev pub invariant-loop-number : goal.invariant-loop-number
invariant-loop-number l =
    l.classes ++ map (export_class (package_in l.source)) (filter (is_exported (world_in l.source) l.applets)
    (drop l.number (map class_of l.source.declared.items)))
    ≡ map (export_class (package_in l.source)) (filter (is_exported (world_in l.source) l.applets)
    (map class_of l.source.declared.items))
