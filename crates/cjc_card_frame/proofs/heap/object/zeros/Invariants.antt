use Rattle.std.proofs.Common.{◌≡◌, replicate, pos}
use Rattle.cjc_card_frame.proofs.heap.object.zeros.Given as goal

abbrev pub invariant-loop-i : goal.invariant-loop-i
invariant-loop-i l = l.items.items ≡ replicate l.i (pos 0)
