use Rattle.cjc_int_components.proofs.ByModes.{as_without_int_mode, same_components, without_int_mode}
use Rattle.cjc_int_components.proofs.packages.packages_without_int_mode_are_as_before.Goals as goal

pub returns-clause-package : goal.returns-clause-package
returns-clause-package c = without_int_mode

pub returns-clause-by_modes : goal.returns-clause-by_modes
returns-clause-by_modes c = as_without_int_mode

pub returns-clause-components : goal.returns-clause-components
returns-clause-components c = same_components
