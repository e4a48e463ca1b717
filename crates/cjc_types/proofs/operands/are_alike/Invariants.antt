use Rattle.std.proofs.Common.{◌≡◌, take, map, length}
use Rattle.cjc_types.proofs.operands.are_alike.Given as goal

abbrev pub invariant-loop-i : goal.invariant-loop-i
invariant-loop-i l = take l.i (map length l.left) ≡ take l.i (map length l.right)
