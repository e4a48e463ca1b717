use Rattle.std.proofs.Common.{◌≡◌, ◌++◌, List, drop, map}
use Rattle.std.specs.Prelude.{Some}
use Rattle.cjc_world.specs.Working.Known.{class_of}
use Rattle.cjc_components.specs.LowerTokens.Members.{Signature}
use Rattle.cjc_components.specs.LowerTokens.Working.{signs}
use Rattle.cjc_components.specs.ExportFile.{supers_from}
use Rattle.cjc_exported.specs.ExportFile.Working.Sources.{world_in}
use Rattle.cjc_exported.proofs.export_file.inherited.put_all_from_above.Given as goal

abbrev pub invariant-loop-token : goal.invariant-loop-token
invariant-loop-token l = (ms : List Signature) → signs l.slots ≡ map Some ms
    → l.methods ++ supers_from (world_in l.source) (class_of l.class) l.token (drop l.token ms) (drop l.token l.row)
    ≡ l.fn.methods ++ supers_from (world_in l.source) (class_of l.class) 0 ms l.row
