use Rattle.cjc_int_mode.proofs.Named.{names_same}
use Rattle.cjc_int_mode.proofs.laws.what_names_int_works_on_int.Goals as goal

pub returns : goal.returns
returns c = names_same
