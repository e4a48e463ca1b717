use Rattle.cjc_int_components.proofs.Room.{works_in_int_mode}
use Rattle.cjc_int_components.proofs.limits.what_works_on_int_is_in_int_mode.Goals as goal

pub returns : goal.returns
returns c = works_in_int_mode
