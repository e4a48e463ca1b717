use Rattle.std.proofs.Common.{◌≡◌, ◌++◌, drop}
use Rattle.cjc_check_index.specs.Imported.Working.Reach.{marked_from}
use Rattle.cjc_check_index.proofs.imported.reach.marked_places.Given as goal

abbrev pub invariant-loop-i : goal.invariant-loop-i
invariant-loop-i l = l.places.items ++ marked_from l.i (drop l.i l.marks) ≡ marked_from 0 l.marks
