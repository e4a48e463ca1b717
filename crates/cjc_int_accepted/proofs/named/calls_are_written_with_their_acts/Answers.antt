use Rattle.cjc_int_accepted.proofs.HandedLaws.{call_acts}
use Rattle.cjc_int_accepted.proofs.named.calls_are_written_with_their_acts.Goals as goal

pub returns : goal.returns
returns c = call_acts
