use Rattle.std.proofs.Common.{◌≡◌, replicate}
use Rattle.cjc_card_frame.proofs.image.first.first_bytes.Given as goal

abbrev pub invariant-loop-i : goal.invariant-loop-i
invariant-loop-i l = l.bytes.items ≡ replicate l.i 0
