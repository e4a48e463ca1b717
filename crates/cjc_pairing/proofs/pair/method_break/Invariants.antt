use Rattle.std.proofs.Common.{◌≡◌, ◌+◌, drop}
use Rattle.std.specs.Prelude.{sum_by}
use Rattle.cjc_classes.specs.LowerComponents.Paired.Pairs.{head_of}
use Rattle.cjc_classes.specs.CheckRules.Complete.{described_size}
use Rattle.cjc_classes.specs.CheckRules.Spots.{beside}
use Rattle.cjc_pairing.specs.Working.Heads.{count_spots_at}
use Rattle.cjc_pairing.proofs.pair.method_break.Given as goal

abbrev pub invariant-loop-i : goal.invariant-loop-i
invariant-loop-i l =
    (l.at + sum_by described_size (drop l.i l.classes) ≡ 1 + sum_by described_size l.descriptor.classes)
    × (head_of (beside described_size count_spots_at l.at (drop l.i l.classes) (drop l.i l.counts))
    ≡ head_of (beside described_size count_spots_at 1 l.descriptor.classes l.counts))
