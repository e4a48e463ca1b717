use Rattle.std.proofs.Common.{◌≡◌, ◌++◌, drop, map}
use Rattle.std.specs.Prelude.{filter}
use Rattle.cjc_world.specs.Classes.{all_classes}
use Rattle.cjc_world.specs.Working.Known.{class_of}
use Rattle.cjc_exported.specs.ExportFile.Working.Sources.{is_of_kind}
use Rattle.cjc_exported.proofs.export_file.numbered.classes_of_kind.Given as goal

abbrev pub invariant-loop-place : goal.invariant-loop-place
invariant-loop-place l = map class_of l.classes.items
    ++ filter (is_of_kind l.imported) (drop l.place (all_classes l.world)) ≡ filter (is_of_kind l.imported)
    (all_classes l.world)
