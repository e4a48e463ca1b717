use Rattle.cjc_tables_by_token.proofs.Typing.{fields_typed}
use Rattle.cjc_tables_by_token.proofs.fields_are_typed.Goals as goal

pub returns : goal.returns
returns c = λ list files codes settings read e. fields_typed list files codes settings read e
