use Rattle.std.proofs.Common.{◌≡◌, List, ◌++◌, drop}
use Rattle.cjc_bytes.specs.declared.fault.MemberId.{MemberId}
use Rattle.cjc_classes.specs.Descriptor.Working.Cells.{offset_before}
use Rattle.cjc_classes.proofs.descriptor.cells.Cells.put_fields.Given as goal

abbrev pub invariant-loop-field : goal.invariant-loop-field
invariant-loop-field l = (rest : List MemberId) (f : MemberId) → offset_before l.self (drop l.field-index l.fields
    ++ rest) f ≡ offset_before l.fn.self (l.fields ++ rest) f
