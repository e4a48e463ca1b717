use Rattle.cjc_int_accepted.proofs.ReachedLaws.{is_right}
use Rattle.cjc_int_accepted.proofs.selection.reached_instructions_are_right.Goals as goal

pub returns : goal.returns
returns c = is_right
