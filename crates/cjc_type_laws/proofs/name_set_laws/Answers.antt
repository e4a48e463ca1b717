use Rattle.cjc_type_laws.proofs.Named.{names_exist}
use Rattle.cjc_type_laws.proofs.name_set_laws.Goals as goal

pub returns : goal.returns
returns c = names_exist
