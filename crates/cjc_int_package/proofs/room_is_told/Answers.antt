use Rattle.cjc_int_package.proofs.Room.{told_in_int_mode}
use Rattle.cjc_int_package.proofs.room_is_told.Goals as goal

pub returns : goal.returns
returns c = told_in_int_mode
