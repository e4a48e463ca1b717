use Rattle.std.proofs.Common.{◌≡◌, ◌+◌, ◌++◌, drop, length}
use Rattle.cjc_world.specs.Working.Known.{class_of}
use Rattle.cjc_exported.specs.ExportFile.Working.Sources.{given_from, package_in}
use Rattle.cjc_exported.proofs.export_file.own.put_given.Given as goal

abbrev pub invariant-loop-place : goal.invariant-loop-place
invariant-loop-place l =
    l.methods ++ given_from (package_in l.source) (class_of l.class) (l.first + l.place) (drop l.place l.ids)
    ≡ l.fn.methods ++ given_from (package_in l.source) (class_of l.class) (length (class_of l.class).fields + length
    (class_of l.class).methods) l.ids
