use Rattle.std.proofs.Common.{◌≡◌, map, take}
use Rattle.cjc_check_rules.specs.ExportFile.declared.tree.ExportClass.{ExportClass}
use Rattle.cjc_check_index.specs.Imported.Working.Graph.{places}
use Rattle.cjc_check_index.proofs.imported.graph.above_of.Given as goal

abbrev pub invariant-loop-listed : goal.invariant-loop-listed
invariant-loop-listed l = l.above ≡ map (λ (c : ExportClass). places l.classes c.supers) (take l.listed-index l.classes)
