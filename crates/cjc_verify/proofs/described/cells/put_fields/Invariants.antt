use Rattle.std.proofs.Common.{◌≡◌, ◌++◌, map, take}
use Rattle.cjc_classes.specs.NCode.declared.narrow.PoolKey.TheVariants.{StaticField}
use Rattle.cjc_bytes.specs.declared.fault.MemberId.{MemberId}
use Rattle.cjc_verify.proofs.described.cells.put_fields.Given as goal

abbrev pub invariant-loop-field : goal.invariant-loop-field
invariant-loop-field l = l.row ≡ l.fn.row ++ map (λ (f : MemberId). StaticField f) (take l.field-index l.fields)
