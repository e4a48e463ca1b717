use Rattle.std.proofs.Common.{◌≡◌, length, List, Bool}
use Rattle.cjc_layout.specs.Legal.{IsLegal, IsWithin}
use Rattle.cjc_layout.specs.Working.{narrow_count}
use Rattle.cjc_layout.proofs.jumps.widen_all.Given as goal

abbrev pub invariant-loop-end : goal.invariant-loop-end
invariant-loop-end l = record {
  count : length l.wide ≡ length l.insns;
  below : (other : List Bool) → IsLegal l.insns other → IsWithin l.wide other;
  places : length l.places ≡ length l.insns;
}

abbrev pub decreases-loop-end : goal.decreases-loop-end
decreases-loop-end l = narrow_count l.wide
