use Rattle.cjc_accepted_proof.proofs.BlocksLaws.{breaks_none, closed_table}
use Rattle.cjc_accepted_proof.proofs.blocks.frames_of_blocks_make_tables.Goals as goal

pub returns-clause-closed : goal.returns-clause-closed
returns-clause-closed c = closed_table

pub returns-clause-unbroken : goal.returns-clause-unbroken
returns-clause-unbroken c = breaks_none
