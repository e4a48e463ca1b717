use Rattle.std.proofs.Common.{◌≡◌, ◌≤◌, ◌-◌, ◌++◌, ℕ, List, length, take, drop, slice_get, Some}
use Rattle.std.specs.declared.cmp.Ordering.TheVariants.{Less}
use Rattle.cjc_types.specs.Names.{compare, insert}
use Rattle.cjc_frames.proofs.sets.place_of.Given as goal

abbrev pub invariant-loop-low : goal.invariant-loop-low
invariant-loop-low l = record {
  ordered : l.low ≤ l.high;
  inside : l.high ≤ length l.set;
  past : insert l.name l.set ≡ take l.low l.set ++ insert l.name (drop l.low l.set);
  before : (x : List ℕ) → slice_get l.set l.high ≡ Some x → compare l.name x ≡ Less;
}

abbrev pub decreases-loop-low : goal.decreases-loop-low
decreases-loop-low l = l.high - l.low
