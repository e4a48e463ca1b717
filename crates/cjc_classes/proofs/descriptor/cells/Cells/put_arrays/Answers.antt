use Rattle.cjc_world.specs.declared.image.ArrayCell.{ArrayCell}
use Rattle.cjc_classes.proofs.DescriptorLaws.Behind.{behind_all, behind_more}
use Rattle.cjc_classes.proofs.descriptor.cells.Cells.put_arrays.Goals as goal

pub loop-array-preserved : goal.loop-array-preserved
loop-array-preserved c = behind_more (λ (a : ArrayCell). a.field) c.args.self.now c.loop-array.self _ c.args.arrays.now
    c.loop-array.array-index c.array-item.result c.loop-array-test.true c.array-item.is c.in_ok-put.ensures
    c.loop-array.invariant

pub returns : goal.returns
returns c = behind_all (λ (a : ArrayCell). a.field) c.args.self.now c.loop-array.self c.args.arrays.now
    c.loop-array.array-index c.loop-array-test.false c.loop-array.invariant
