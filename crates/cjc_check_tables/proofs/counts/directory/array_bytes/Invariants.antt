use Rattle.std.proofs.Common.{◌≡◌, ◌+◌, drop}
use Rattle.cjc_check_rules.specs.Listed.{array_bytes}
use Rattle.cjc_check_tables.proofs.counts.directory.array_bytes.Given as goal

abbrev pub invariant-loop-array : goal.invariant-loop-array
invariant-loop-array l = l.size + array_bytes (drop l.array-index l.arrays) ≡ array_bytes l.arrays
