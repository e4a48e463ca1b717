use Rattle.std.proofs.Common.{◌≡◌, length, take}
use Rattle.std.specs.List.{flat_map}
use Rattle.cjc_capwrite.specs.Size.{capped}
use Rattle.cjc_capwrite.specs.Statics.{array_init_bytes}
use Rattle.cjc_capwrite.proofs.sizes.array_inits_size.Given as goal

abbrev pub invariant-loop-array : goal.invariant-loop-array
invariant-loop-array l = l.size ≡ capped (length (flat_map array_init_bytes (take l.array-index l.arrays)))
