use Rattle.cjc_int_accepted.proofs.ReturnsStandLaws.{result_of_frame, return_stands}
use Rattle.cjc_int_accepted.proofs.returns_stand.returns_stand.Goals as goal

pub returns-clause-results : goal.returns-clause-results
returns-clause-results c = result_of_frame

pub returns-clause-stand : goal.returns-clause-stand
returns-clause-stand c = return_stands
