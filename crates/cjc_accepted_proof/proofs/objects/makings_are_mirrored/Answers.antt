use Rattle.cjc_accepted_proof.proofs.InstructionsLaws.Objects.{new_mirrors, numbers_mirror, references_mirror}
use Rattle.cjc_accepted_proof.proofs.objects.makings_are_mirrored.Goals as goal

pub returns-clause-objects : goal.returns-clause-objects
returns-clause-objects c = new_mirrors

pub returns-clause-numbers : goal.returns-clause-numbers
returns-clause-numbers c = numbers_mirror

pub returns-clause-references : goal.returns-clause-references
returns-clause-references c = references_mirror
