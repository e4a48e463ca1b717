use Rattle.cjc_accepted_proof.specs.Methods.{blocks_from}
use Rattle.cjc_accepted_proof.proofs.BlocksLaws.{breaks_none, closed_table}
use Rattle.cjc_accepted_proof.proofs.MethodsLaws.{are_blocks}
use Rattle.cjc_accepted_proof.proofs.methods.tables_of_methods_are_closed.Goals as goal

pub returns-clause-blocks : goal.returns-clause-blocks
returns-clause-blocks c = are_blocks

pub returns-clause-closed : goal.returns-clause-closed
returns-clause-closed c card_type is_of r b rows opened step m to is decoded pairs table = closed_table is_of m
    (blocks_from card_type is_of r b rows opened step 0 0 b.insns rows) (are_blocks card_type is_of r b rows opened step
    m to is decoded pairs table)

pub returns-clause-unbroken : goal.returns-clause-unbroken
returns-clause-unbroken c card_type is_of r b rows opened step m to is decoded pairs table = breaks_none is_of m
    (blocks_from card_type is_of r b rows opened step 0 0 b.insns rows) (are_blocks card_type is_of r b rows opened step
    m to is decoded pairs table)
