use Rattle.cjc_int_accepted.proofs.CallsStandLaws.{call_stands}
use Rattle.cjc_int_accepted.proofs.call_stands.calls_stand_in_int_mode.Goals as goal

pub returns : goal.returns
returns c = call_stands
