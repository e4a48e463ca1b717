use Rattle.std.proofs.Common.{◌≡◌, ◌++◌, drop}
use Rattle.cjc_world.specs.Working.Known.{class_of}
use Rattle.cjc_components.specs.ExportFile.{inherited_from}
use Rattle.cjc_exported.specs.ExportFile.Working.Sources.{world_in}
use Rattle.cjc_exported.proofs.export_file.inherited.put_all_inherited.Given as goal

abbrev pub invariant-loop-token : goal.invariant-loop-token
invariant-loop-token l = l.methods ++ inherited_from (world_in l.source) (class_of l.class) l.token (drop l.token l.row)
    ≡ l.fn.methods ++ inherited_from (world_in l.source) (class_of l.class) 0 l.row
