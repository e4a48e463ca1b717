use Rattle.cjc_types.proofs.TypeLaws.Named.{names_exist}
use Rattle.cjc_types.proofs.type_laws.name_set_laws.Goals as goal

pub returns : goal.returns
returns c = names_exist
