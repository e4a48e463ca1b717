use Rattle.std.proofs.Common.{◌≡◌, ◌++◌, map, take}
use Rattle.cjc_classes.specs.NCode.declared.narrow.PoolKey.TheVariants.{StaticField}
use Rattle.cjc_world.specs.declared.image.ArrayCell.{ArrayCell}
use Rattle.cjc_verify.proofs.described.cells.put_arrays.Given as goal

abbrev pub invariant-loop-array : goal.invariant-loop-array
invariant-loop-array l = l.row ≡ l.fn.row ++ map (λ (a : ArrayCell). StaticField a.field) (take l.array-index l.arrays)
