use Rattle.cjc_accepted_proof.proofs.InstructionsLaws.Members.{constant_mirrors, getting_static_mirrors}
use Rattle.cjc_accepted_proof.proofs.InstructionsLaws.Members.{putting_static_mirrors}
use Rattle.cjc_accepted_proof.proofs.members.static_fields_are_mirrored.Goals as goal

pub returns-clause-reads : goal.returns-clause-reads
returns-clause-reads c = getting_static_mirrors

pub returns-clause-constants : goal.returns-clause-constants
returns-clause-constants c = constant_mirrors

pub returns-clause-writes : goal.returns-clause-writes
returns-clause-writes c = putting_static_mirrors
