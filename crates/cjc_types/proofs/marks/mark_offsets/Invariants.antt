use Rattle.std.proofs.Common.{◌≡◌, drop}
use Rattle.cjc_types.specs.Working.Marking.{with_offsets}
use Rattle.cjc_types.proofs.marks.mark_offsets.Given as goal

abbrev pub invariant-loop-offset : goal.invariant-loop-offset
invariant-loop-offset l = with_offsets l.method.insns l.marked.items (drop l.offset-index l.offsets)
    ≡ with_offsets l.method.insns l.fn.marked.items l.offsets
