use Rattle.std.proofs.Common.{◌≡◌, ◌++◌, map, take}
use Rattle.cjc_classes.specs.NCode.declared.narrow.PoolKey.TheVariants.{StaticField}
use Rattle.cjc_world.specs.declared.image.ValueCell.{ValueCell}
use Rattle.cjc_verify.proofs.described.cells.put_values.Given as goal

abbrev pub invariant-loop-value : goal.invariant-loop-value
invariant-loop-value l = l.row ≡ l.fn.row ++ map (λ (v : ValueCell). StaticField v.field) (take l.value-index l.values)
