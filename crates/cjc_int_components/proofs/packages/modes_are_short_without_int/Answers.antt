use Rattle.cjc_int_components.proofs.ByModes.{modes_short}
use Rattle.cjc_int_components.proofs.packages.modes_are_short_without_int.Goals as goal

pub returns : goal.returns
returns c = modes_short
