use Rattle.std.proofs.Common.{◌≡◌, ◌++◌, drop, map}
use Rattle.std.specs.Prelude.{filter}
use Rattle.cjc_world.specs.Classes.{all_classes}
use Rattle.cjc_world.specs.Exported.{is_exported}
use Rattle.cjc_world.specs.Working.Known.{class_of}
use Rattle.cjc_components.specs.Exports.{exported_class}
use Rattle.cjc_components.specs.Package.{Package}
use Rattle.cjc_exported.specs.ExportFile.Offsets.{AreOffsets}
use Rattle.cjc_exported.proofs.export_file.component.exported.Given as goal

abbrev pub invariant-loop-number : goal.invariant-loop-number
invariant-loop-number l = (p : Package) → p.files ≡ l.world → AreOffsets p l.offsets
    → l.classes ++ map (exported_class p) (filter (is_exported (all_classes l.world) l.applets)
    (drop l.number (map class_of l.declared))) ≡ map (exported_class p)
    (filter (is_exported (all_classes l.world) l.applets) (map class_of l.declared))
