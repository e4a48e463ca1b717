use Rattle.cjc_token_proof.proofs.TablesLaws.Typing.{fields_typed}
use Rattle.cjc_token_proof.proofs.tables.fields_are_typed.Goals as goal

pub returns : goal.returns
returns c = λ list files codes settings read e. fields_typed list files codes settings read e
