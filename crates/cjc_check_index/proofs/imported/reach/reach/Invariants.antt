use Rattle.std.proofs.Common.{◌+◌, length}
use Rattle.cjc_check_index.specs.Imported.Working.Reach.{IsWalk, unmarked}
use Rattle.cjc_check_index.proofs.imported.reach.reach.Given as goal

abbrev pub invariant-loop-at : goal.invariant-loop-at
invariant-loop-at l = IsWalk l.below l.fn.begin l.marks.items l.stack.items

abbrev pub decreases-loop-at : goal.decreases-loop-at
decreases-loop-at l = unmarked l.marks.items + length l.stack.items
