use Rattle.std.proofs.Common.{◌≡◌, drop}
use Rattle.cjc_imported.specs.Working.Reach.{marks_after, stack_after}
use Rattle.cjc_imported.proofs.reach.mark_each.Given as goal

abbrev pub invariant-loop-at : goal.invariant-loop-at
invariant-loop-at l =
    (marks_after l.marks.items (drop l.at-index l.places) ≡ marks_after l.fn.marks.items l.places)
    × (stack_after l.marks.items l.stack.items (drop l.at-index l.places) ≡ stack_after l.fn.marks.items l.fn.stack.items l.places)
