use Rattle.cjc_accepted_proof.proofs.SubtypesLaws.{subtypes_agree}
use Rattle.cjc_accepted_proof.proofs.subtypes.subtypes_are_read.Goals as goal

pub returns : goal.returns
returns c = subtypes_agree
