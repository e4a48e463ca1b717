use Rattle.cjc_accepted_proof.proofs.InstructionsLaws.Objects.{ask_mirrors, cast_mirrors}
use Rattle.cjc_accepted_proof.proofs.objects.tests_are_mirrored.Goals as goal

pub returns-clause-casts : goal.returns-clause-casts
returns-clause-casts c = cast_mirrors

pub returns-clause-asks : goal.returns-clause-asks
returns-clause-asks c = ask_mirrors
