use Rattle.std.proofs.Common.{◌≡◌, ℕ, ◌+◌, ◌-◌, length}
use Rattle.std.specs.Prelude.{slice_get}
use Rattle.cjc_jvm_semantics.specs.Effects.{or_other}
use Rattle.cjc_jvm_link.proofs.indices.make_room.Given as goal

abbrev pub invariant-loop-index : goal.invariant-loop-index
invariant-loop-index l = (at : ℕ) → or_other l.none (slice_get l.index.items at)
    ≡ or_other l.none (slice_get l.initial.index.items at)

abbrev pub decreases-loop-index : goal.decreases-loop-index
decreases-loop-index l = l.offset + 1 - length l.index.items
