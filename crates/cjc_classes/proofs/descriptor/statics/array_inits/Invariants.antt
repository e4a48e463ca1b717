use Rattle.std.proofs.Common.{◌≡◌, map, take}
use Rattle.cjc_components.specs.Statics.{array_init}
use Rattle.cjc_classes.proofs.descriptor.statics.array_inits.Given as goal

abbrev pub invariant-loop-array : goal.invariant-loop-array
invariant-loop-array l = l.inits ≡ map array_init (take l.array-index l.arrays)
