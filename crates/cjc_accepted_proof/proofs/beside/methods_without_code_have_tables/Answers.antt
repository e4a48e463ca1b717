use Rattle.cjc_accepted_proof.proofs.BesideLaws.{bare_table}
use Rattle.cjc_accepted_proof.proofs.beside.methods_without_code_have_tables.Goals as goal

pub returns : goal.returns
returns c = bare_table
