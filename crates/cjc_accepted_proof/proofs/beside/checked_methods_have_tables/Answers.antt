use Rattle.cjc_accepted_proof.proofs.BesideLaws.{has_table, written_for}
use Rattle.cjc_accepted_proof.proofs.beside.checked_methods_have_tables.Goals as goal

pub returns-clause-written : goal.returns-clause-written
returns-clause-written c = written_for

pub returns-clause-tables : goal.returns-clause-tables
returns-clause-tables c = has_table
