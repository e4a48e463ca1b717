use Rattle.cjc_accepted_proof.proofs.InstructionsLaws.Plain.{branch_mirrors, goto_mirrors, lookup_mirrors}
use Rattle.cjc_accepted_proof.proofs.InstructionsLaws.Plain.{table_mirrors}
use Rattle.cjc_accepted_proof.proofs.plain.jumps_are_mirrored.Goals as goal

pub returns-clause-branches : goal.returns-clause-branches
returns-clause-branches c = branch_mirrors

pub returns-clause-gotos : goal.returns-clause-gotos
returns-clause-gotos c = goto_mirrors

pub returns-clause-tables : goal.returns-clause-tables
returns-clause-tables c = table_mirrors

pub returns-clause-pairs : goal.returns-clause-pairs
returns-clause-pairs c = lookup_mirrors
