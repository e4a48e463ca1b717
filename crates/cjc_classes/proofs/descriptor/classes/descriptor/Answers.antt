use Rattle.cjc_classes.proofs.DescriptorLaws.Descriptors.{descriptor_is}
use Rattle.cjc_classes.proofs.descriptor.classes.descriptor.Goals as goal

pub returns : goal.returns
returns c = λ p h. descriptor_is p c.args.parts.now _ _ _ h c.in_ok-classes.ensures c.in_ok-pool_types.ensures
    c.in_ok-types.ensures
