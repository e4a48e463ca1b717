use Rattle.cjc_bytes.specs.declared.fault.MemberId.{MemberId}
use Rattle.cjc_classes.specs.NCode.declared.narrow.PoolKey.TheVariants.{StaticField}
use Rattle.cjc_verify.proofs.DescribedLaws.Numbers.{in_parts}
use Rattle.cjc_verify.proofs.described.cells.keys_of.Goals as goal

pub returns : goal.returns
returns c = in_parts (λ (f : MemberId). StaticField f) c.args.image.now c.items.result.now c.items-2.result.now
    c.items-3.result.now c.items-4.result.now c.new-row.result c.put_arrays.new.row c.put_fields.new.row
    c.put_fields-2.new.row c.put_values.new.row c.items.ensures c.items-2.ensures c.items-3.ensures c.items-4.ensures
    c.new-row.ensures c.in_ok-put_arrays.ensures c.in_ok-put_fields.ensures c.in_ok-put_fields-2.ensures
    c.in_ok-put_values.ensures
