use Rattle.std.proofs.Common.{◌≡◌, ◌++◌, drop}
use Rattle.std.specs.List.{flat_map}
use Rattle.cjc_pairing.specs.Working.Counts.{count_at}
use Rattle.cjc_pairing.proofs.counts.put_counts.Given as goal

abbrev pub invariant-loop-number : goal.invariant-loop-number
invariant-loop-number l = l.counts ++ flat_map (count_at l.world) (drop l.number-index l.numbers) ≡ l.fn.counts
    ++ flat_map (count_at l.world) l.numbers
