use Rattle.std.proofs.Common.{◌≡◌, ◌++◌, take}
use Rattle.std.specs.List.{flat_map}
use Rattle.cjc_capwrite.specs.Statics.{array_init_bytes}
use Rattle.cjc_capwrite.proofs.statics.put_array_inits.Given as goal

abbrev pub invariant-loop-array : goal.invariant-loop-array
invariant-loop-array l = l.out ≡ l.fn.out ++ flat_map array_init_bytes (take l.array-index l.arrays)
