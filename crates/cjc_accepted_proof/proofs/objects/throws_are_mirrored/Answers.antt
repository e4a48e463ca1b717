use Rattle.cjc_accepted_proof.proofs.InstructionsLaws.Objects.{throw_mirrors}
use Rattle.cjc_accepted_proof.proofs.objects.throws_are_mirrored.Goals as goal

pub returns : goal.returns
returns c = throw_mirrors
