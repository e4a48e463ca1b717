use Rattle.std.proofs.Common.{◌≡◌, ℕ, ◌+◌, ◌≤◌, length, drop}
use Rattle.std.specs.Prelude.{slice_get}
use Rattle.cjc_jvm_semantics.specs.Effects.{or_other, place}
use Rattle.cjc_jvm_link.proofs.indices.index_of.Given as goal

abbrev pub invariant-loop-place : goal.invariant-loop-place
invariant-loop-place l = record {
  none : l.none ≡ length l.insns;
  inside : l.place ≤ length l.insns;
  index : (at : ℕ) → or_other l.none (slice_get l.index.items at) ≡ l.place + place (drop l.place l.insns) at;
}

abbrev pub decreases-loop-place : goal.decreases-loop-place
decreases-loop-place l = l.place
