use Rattle.cjc_token_proof.proofs.TablesLaws.Tables.{tables_agree}
use Rattle.cjc_token_proof.proofs.tables.class_tables_agree.Goals as goal

pub returns : goal.returns
returns c = λ list p codes call code sound typed image once. tables_agree list p sound typed codes image once call code
