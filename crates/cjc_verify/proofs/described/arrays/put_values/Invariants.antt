use Rattle.std.proofs.Common.{◌≡◌, ◌++◌, map, take}
use Rattle.cjc_world.specs.declared.image.ValueCell.{ValueCell}
use Rattle.cjc_verify.specs.Described.{array_number}
use Rattle.cjc_verify.proofs.described.arrays.put_values.Given as goal

abbrev pub invariant-loop-value : goal.invariant-loop-value
invariant-loop-value l = l.row ≡ l.fn.row ++ map (λ (v : ValueCell). array_number v.field.desc) (take l.value-index
    l.values)
