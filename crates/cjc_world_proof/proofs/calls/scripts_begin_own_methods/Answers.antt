use Rattle.cjc_world_proof.proofs.CallsLaws.Scripts.{called_method, sent_method}
use Rattle.cjc_world_proof.proofs.calls.scripts_begin_own_methods.Goals as goal

pub returns-clause-called : goal.returns-clause-called
returns-clause-called c = called_method

pub returns-clause-sent : goal.returns-clause-sent
returns-clause-sent c = sent_method
