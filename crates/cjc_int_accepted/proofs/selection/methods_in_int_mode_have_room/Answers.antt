use Rattle.cjc_int_accepted.proofs.SelectionLaws.{room_low, room_usable}
use Rattle.cjc_int_accepted.proofs.selection.methods_in_int_mode_have_room.Goals as goal

pub returns-clause-low : goal.returns-clause-low
returns-clause-low c = room_low

pub returns-clause-usable : goal.returns-clause-usable
returns-clause-usable c = room_usable
