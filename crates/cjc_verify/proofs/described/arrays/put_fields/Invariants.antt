use Rattle.std.proofs.Common.{◌≡◌, ◌++◌, map, take}
use Rattle.cjc_bytes.specs.declared.fault.MemberId.{MemberId}
use Rattle.cjc_verify.specs.Described.{array_number}
use Rattle.cjc_verify.proofs.described.arrays.put_fields.Given as goal

abbrev pub invariant-loop-field : goal.invariant-loop-field
invariant-loop-field l = l.row ≡ l.fn.row ++ map (λ (f : MemberId). array_number f.desc) (take l.field-index l.fields)
