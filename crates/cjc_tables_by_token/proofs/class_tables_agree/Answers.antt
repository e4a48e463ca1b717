use Rattle.cjc_tables_by_token.proofs.Tables.{tables_agree}
use Rattle.cjc_tables_by_token.proofs.class_tables_agree.Goals as goal

pub returns : goal.returns
returns c = λ list p codes call code sound typed image once. tables_agree list p sound typed codes image once call code
