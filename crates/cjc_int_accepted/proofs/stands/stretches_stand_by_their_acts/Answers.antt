use Rattle.cjc_int_accepted.proofs.StandLaws.{stands_by_acts}
use Rattle.cjc_int_accepted.proofs.stands.stretches_stand_by_their_acts.Goals as goal

pub returns : goal.returns
returns c = stands_by_acts
