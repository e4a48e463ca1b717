use Rattle.std.proofs.Common.{◌≡◌, List, ◌++◌, map, drop}
use Rattle.cjc_bytes.specs.declared.fault.MemberId.{MemberId}
use Rattle.cjc_world.specs.declared.image.ArrayCell.{ArrayCell}
use Rattle.cjc_classes.specs.Descriptor.Working.Cells.{offset_before}
use Rattle.cjc_classes.proofs.descriptor.cells.Cells.put_arrays.Given as goal

abbrev pub invariant-loop-array : goal.invariant-loop-array
invariant-loop-array l = (rest : List MemberId) (f : MemberId)
    → offset_before l.self (map (λ (a : ArrayCell). a.field) (drop l.array-index l.arrays) ++ rest) f
    ≡ offset_before l.fn.self (map (λ (a : ArrayCell). a.field) l.arrays ++ rest) f
