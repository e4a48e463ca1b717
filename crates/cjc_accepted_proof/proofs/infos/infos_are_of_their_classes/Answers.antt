use Rattle.cjc_accepted_proof.proofs.InfosLaws.{infos_none, tables_are}
use Rattle.cjc_accepted_proof.proofs.infos.infos_are_of_their_classes.Goals as goal

pub returns-clause-heads : goal.returns-clause-heads
returns-clause-heads c = infos_none

pub returns-clause-tables : goal.returns-clause-tables
returns-clause-tables c = tables_are
