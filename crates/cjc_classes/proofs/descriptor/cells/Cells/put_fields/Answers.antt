use Rattle.cjc_classes.proofs.DescriptorLaws.Behind.{fields_all, fields_more}
use Rattle.cjc_classes.proofs.descriptor.cells.Cells.put_fields.Goals as goal

pub loop-field-preserved : goal.loop-field-preserved
loop-field-preserved c = fields_more c.args.self.now c.loop-field.self _ c.args.fields.now c.loop-field.field-index
    c.field-item.result c.loop-field-test.true c.field-item.is c.in_ok-put.ensures c.loop-field.invariant

pub returns : goal.returns
returns c = fields_all c.args.self.now c.loop-field.self c.args.fields.now c.loop-field.field-index
    c.loop-field-test.false c.loop-field.invariant
