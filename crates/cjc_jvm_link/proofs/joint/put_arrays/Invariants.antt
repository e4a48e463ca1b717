use Rattle.std.proofs.Common.{◌≡◌, ◌++◌, take}
use Rattle.cjc_jvm_link.proofs.joint.put_arrays.Given as goal

abbrev pub invariant-loop-array : goal.invariant-loop-array
invariant-loop-array l = l.arrays ≡ l.initial.arrays ++ take l.array-index l.more
