use Rattle.cjc_accepted_proof.proofs.InstructionsLaws.Plain.{increase_mirrors, load_mirrors, store_mirrors}
use Rattle.cjc_accepted_proof.proofs.plain.locals_are_mirrored.Goals as goal

pub returns-clause-loads : goal.returns-clause-loads
returns-clause-loads c = load_mirrors

pub returns-clause-increases : goal.returns-clause-increases
returns-clause-increases c = increase_mirrors

pub returns-clause-stores : goal.returns-clause-stores
returns-clause-stores c = store_mirrors
