use Rattle.std.proofs.Common.{◌≡◌, take}
use Rattle.cjc_components.specs.LowerCheckRules.Listed.{array_bytes}
use Rattle.cjc_classes.proofs.directory.counts.array_bytes.Given as goal

abbrev pub invariant-loop-array : goal.invariant-loop-array
invariant-loop-array l = l.bytes ≡ array_bytes (take l.array-index l.arrays)
