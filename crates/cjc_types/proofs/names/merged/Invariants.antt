use Rattle.std.proofs.Common.{◌≡◌, ◌≤◌, ◌+◌, ◌-◌, ◌++◌, length, drop}
use Rattle.cjc_types.specs.Names.{union}
use Rattle.cjc_types.proofs.names.merged.Given as goal

abbrev pub invariant-loop-i : goal.invariant-loop-i
invariant-loop-i l = record {
  left : l.i ≤ length l.left;
  right : l.k ≤ length l.right;
  union : l.set.items ++ union (drop l.i l.left) (drop l.k l.right) ≡ union l.left l.right;
}

abbrev pub decreases-loop-i : goal.decreases-loop-i
decreases-loop-i l = (length l.left - l.i) + (length l.right - l.k)
