use Rattle.cjc_int_components.proofs.Operations.{names_by_modes}
use Rattle.cjc_int_components.proofs.packages.code_by_modes_names_as_written.Goals as goal

pub returns : goal.returns
returns c = names_by_modes
