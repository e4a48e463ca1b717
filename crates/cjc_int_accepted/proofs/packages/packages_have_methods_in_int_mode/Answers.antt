use Rattle.cjc_int_accepted.proofs.PackagesLaws.{has_room, is_written}
use Rattle.cjc_int_accepted.proofs.packages.packages_have_methods_in_int_mode.Goals as goal

pub returns-clause-written : goal.returns-clause-written
returns-clause-written c = is_written

pub returns-clause-room : goal.returns-clause-room
returns-clause-room c = has_room
