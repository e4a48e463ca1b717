use Rattle.std.proofs.Common.{◌≡◌, ◌+◌, ◌++◌, drop, length}
use Rattle.cjc_world.specs.Working.Known.{class_of}
use Rattle.cjc_components.specs.ExportFile.{methods_from}
use Rattle.cjc_exported.specs.ExportFile.Working.Sources.{package_in}
use Rattle.cjc_exported.proofs.export_file.own.put_own.Given as goal

abbrev pub invariant-loop-place : goal.invariant-loop-place
invariant-loop-place l =
    l.methods ++ methods_from (package_in l.source) (class_of l.class) (length (class_of l.class).fields + l.place)
    (drop l.place (class_of l.class).methods)
    ≡ l.fn.methods ++ methods_from (package_in l.source) (class_of l.class) (length (class_of l.class).fields)
    (class_of l.class).methods
