use Rattle.std.proofs.Common.{◌≡◌, map, take}
use Rattle.cjc_jvm_semantics.specs.OnePackage.{static_array}
use Rattle.cjc_jvm_link.proofs.cells.heap_of.Given as goal

abbrev pub invariant-loop-array : goal.invariant-loop-array
invariant-loop-array l = l.heap ≡ map static_array (take l.array-index l.image.arrays)
