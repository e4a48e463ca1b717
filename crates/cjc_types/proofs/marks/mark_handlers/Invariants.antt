use Rattle.std.proofs.Common.{◌≡◌, drop}
use Rattle.cjc_types.specs.Working.Marking.{with_handlers}
use Rattle.cjc_types.proofs.marks.mark_handlers.Given as goal

abbrev pub invariant-loop-catch : goal.invariant-loop-catch
invariant-loop-catch l = with_handlers l.method.insns l.marked.items (drop l.catch-index l.catch-items)
    ≡ with_handlers l.method.insns l.fn.marked.items l.catch-items
