use Rattle.cjc_world.specs.declared.image.ValueCell.{ValueCell}
use Rattle.cjc_classes.proofs.DescriptorLaws.Behind.{behind_all, behind_more}
use Rattle.cjc_classes.proofs.descriptor.cells.Cells.put_values.Goals as goal

pub loop-value-preserved : goal.loop-value-preserved
loop-value-preserved c = behind_more (λ (v : ValueCell). v.field) c.args.self.now c.loop-value.self _ c.args.values.now
    c.loop-value.value-index c.value-item.result c.loop-value-test.true c.value-item.is c.in_ok-put.ensures
    c.loop-value.invariant

pub returns : goal.returns
returns c = behind_all (λ (v : ValueCell). v.field) c.args.self.now c.loop-value.self c.args.values.now
    c.loop-value.value-index c.loop-value-test.false c.loop-value.invariant
