use Rattle.std.proofs.Common.{◌≡◌, ◌+◌, drop}
use Rattle.std.specs.Prelude.{sum_by}
use Rattle.cjc_check_rules.specs.Complete.{array_size}
use Rattle.cjc_check_rules.specs.Spots.{along}
use Rattle.cjc_check_rules.specs.Statics.{in_array}
use Rattle.cjc_check_rules.specs.Spots.{earlier, first}
use Rattle.cjc_check_tables.proofs.counts.statics.in_arrays.Given as goal

abbrev pub invariant-loop-array : goal.invariant-loop-array
invariant-loop-array l =
    (l.at + sum_by array_size (drop l.array-index l.arrays) ≡ 6 + sum_by array_size l.arrays)
    × (earlier l.least (first (along array_size in_array l.at (drop l.array-index l.arrays)))
    ≡ first (along array_size in_array 6 l.arrays))
