use Rattle.cjc_world.proofs.Indexing.{Indexing}
use Rattle.cjc_world.proofs.spot.index.Given as goal

abbrev pub invariant-loop-line : goal.invariant-loop-line
invariant-loop-line l = Indexing l.classes l.exports l.lines l.spots.items l.class_files l.export_files l.imports
    l.line-index
