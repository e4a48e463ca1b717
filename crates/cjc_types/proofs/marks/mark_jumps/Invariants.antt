use Rattle.std.proofs.Common.{◌≡◌, drop}
use Rattle.cjc_types.specs.Working.Marking.{with_jumps}
use Rattle.cjc_types.proofs.marks.mark_jumps.Given as goal

abbrev pub invariant-loop-insn : goal.invariant-loop-insn
invariant-loop-insn l = with_jumps l.method.insns l.marked.items (drop l.insn-index l.insn-items)
    ≡ with_jumps l.method.insns l.fn.marked.items l.insn-items
