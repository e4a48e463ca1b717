use Rattle.std.proofs.Common.{◌≡◌, ◌++◌, map, take}
use Rattle.cjc_world.specs.declared.image.ArrayCell.{ArrayCell}
use Rattle.cjc_verify.specs.Described.{array_number}
use Rattle.cjc_verify.proofs.described.arrays.put_arrays.Given as goal

abbrev pub invariant-loop-array : goal.invariant-loop-array
invariant-loop-array l = l.row ≡ l.fn.row ++ map (λ (a : ArrayCell). array_number a.field.desc) (take l.array-index
    l.arrays)
