use Rattle.std.proofs.Common.{◌≡◌, replicate}
use Rattle.cjc_jvm_step.proofs.heap.object.copies.Given as goal

abbrev pub invariant-loop-i : goal.invariant-loop-i
invariant-loop-i l = l.items.items ≡ replicate l.i l.value
