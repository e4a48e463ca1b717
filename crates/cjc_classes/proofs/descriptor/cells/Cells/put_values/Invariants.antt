use Rattle.std.proofs.Common.{◌≡◌, List, ◌++◌, map, drop}
use Rattle.cjc_bytes.specs.declared.fault.MemberId.{MemberId}
use Rattle.cjc_world.specs.declared.image.ValueCell.{ValueCell}
use Rattle.cjc_classes.specs.Descriptor.Working.Cells.{offset_before}
use Rattle.cjc_classes.proofs.descriptor.cells.Cells.put_values.Given as goal

abbrev pub invariant-loop-value : goal.invariant-loop-value
invariant-loop-value l = (rest : List MemberId) (f : MemberId)
    → offset_before l.self (map (λ (v : ValueCell). v.field) (drop l.value-index l.values) ++ rest) f
    ≡ offset_before l.fn.self (map (λ (v : ValueCell). v.field) l.values ++ rest) f
