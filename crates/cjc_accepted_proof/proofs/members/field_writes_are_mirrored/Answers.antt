use Rattle.cjc_accepted_proof.proofs.InstructionsLaws.Members.{putting_mirrors}
use Rattle.cjc_accepted_proof.proofs.members.field_writes_are_mirrored.Goals as goal

pub returns : goal.returns
returns c = putting_mirrors
