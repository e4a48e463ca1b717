use Rattle.std.proofs.Common.{◌≡◌, ◌≤◌, ◌<◌, ◌-◌, ℕ, length, slice_get, Some}
use Rattle.cjc_code.specs.declared.insn.JInsn.{JInsn}
use Rattle.cjc_types.proofs.repeats.place_from.Given as goal

abbrev pub invariant-loop-low : goal.invariant-loop-low
invariant-loop-low l = record {
  ordered : l.low ≤ l.high;
  inside : l.high ≤ length l.insns;
  before : (k : ℕ) (i : JInsn) → slice_get l.insns k ≡ Some i → k < l.low → i.at < l.offset;
  behind : (k : ℕ) (i : JInsn) → slice_get l.insns k ≡ Some i → l.high ≤ k → l.offset ≤ i.at;
}

abbrev pub decreases-loop-low : goal.decreases-loop-low
decreases-loop-low l = l.high - l.low
