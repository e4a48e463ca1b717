use Rattle.cjc_bytes.proofs.DescriptorTypes.{desc_spelt, desc_read}
use Rattle.cjc_bytes.proofs.descriptor.descriptors.Goals as goal

pub returns-clause-spelt : goal.returns-clause-spelt
returns-clause-spelt c = desc_spelt

pub returns-clause-read : goal.returns-clause-read
returns-clause-read c = desc_read
