use Rattle.std.proofs.Common.{◌≡◌, drop}
use Rattle.cjc_check_index.specs.Imported.Working.Reach.{marks_after, stack_after}
use Rattle.cjc_check_index.proofs.imported.reach.mark_each.Given as goal

abbrev pub invariant-loop-at : goal.invariant-loop-at
invariant-loop-at l =
    (marks_after l.marks.items (drop l.at-index l.places) ≡ marks_after l.fn.marks.items l.places)
    × (stack_after l.marks.items l.stack.items (drop l.at-index l.places) ≡ stack_after l.fn.marks.items
    l.fn.stack.items l.places)
