use Rattle.cjc_int_accepted.proofs.RowsLaws.Calls.{last_walk, whole_walk}
use Rattle.cjc_int_accepted.proofs.calls.arguments_are_handed_over_in_int_mode.Goals as goal

pub returns-clause-whole : goal.returns-clause-whole
returns-clause-whole c = whole_walk

pub returns-clause-last : goal.returns-clause-last
returns-clause-last c = last_walk
