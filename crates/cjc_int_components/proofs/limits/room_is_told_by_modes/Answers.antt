use Rattle.cjc_int_components.proofs.Room.{room_in_int_mode, room_outside}
use Rattle.cjc_int_components.proofs.limits.room_is_told_by_modes.Goals as goal

pub returns-clause-in_int_mode : goal.returns-clause-in_int_mode
returns-clause-in_int_mode c = room_in_int_mode

pub returns-clause-outside : goal.returns-clause-outside
returns-clause-outside c = room_outside
