use Rattle.cjc_token_proof.proofs.CallsLaws.Reaching.{interface_call_reaches, outside_call_reaches}
use Rattle.cjc_token_proof.proofs.calls.interface_calls_reach.Goals as goal

pub returns-clause-inside : goal.returns-clause-inside
returns-clause-inside c = interface_call_reaches

pub returns-clause-outside : goal.returns-clause-outside
returns-clause-outside c = outside_call_reaches
