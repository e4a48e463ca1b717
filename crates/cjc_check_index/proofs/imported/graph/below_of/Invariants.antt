use Rattle.cjc_check_index.proofs.ImportedLaws.Edges.{ArePut}
use Rattle.cjc_check_index.proofs.imported.graph.below_of.Given as goal

abbrev pub invariant-loop-i : goal.invariant-loop-i
invariant-loop-i l = ArePut l.i l.above l.below.items
