use Rattle.cjc_int_components.proofs.Consistent.{consistent_by_modes}
use Rattle.cjc_int_components.proofs.packages.components_by_modes_are_consistent.Goals as goal

pub returns : goal.returns
returns c = consistent_by_modes
