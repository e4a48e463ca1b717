use Rattle.std.proofs.Common.{◌≡◌, List, ◌++◌, drop}
use Rattle.cjc_check_rules.specs.ExportFile.declared.tree.ExportClass.{ExportClass}
use Rattle.cjc_check_index.specs.Imported.Working.Graph.{places}
use Rattle.cjc_check_index.specs.Imported.Working.Names.{IsIndex}
use Rattle.cjc_check_index.proofs.imported.graph.places.Given as goal

abbrev pub invariant-loop-name : goal.invariant-loop-name
invariant-loop-name l = (classes : List ExportClass) → IsIndex l.index classes
    → l.row ++ places classes (drop l.name-index l.names) ≡ places classes l.names
