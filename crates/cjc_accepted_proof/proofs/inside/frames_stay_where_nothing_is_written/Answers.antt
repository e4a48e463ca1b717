use Rattle.cjc_accepted_proof.proofs.InstructionsLaws.Inside.{opening_below, silent_below}
use Rattle.cjc_accepted_proof.proofs.inside.frames_stay_where_nothing_is_written.Goals as goal

pub returns-clause-silent : goal.returns-clause-silent
returns-clause-silent c card_type w b count o op is = silent_below card_type w b count o is

pub returns-clause-opening : goal.returns-clause-opening
returns-clause-opening c = opening_below
