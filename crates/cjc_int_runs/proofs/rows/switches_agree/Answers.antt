use Rattle.cjc_int_runs.proofs.Switches.{tableswitch, lookupswitch}
use Rattle.cjc_int_runs.proofs.rows.switches_agree.Goals as goal

pub returns-clause-tableswitch : goal.returns-clause-tableswitch
returns-clause-tableswitch c = tableswitch

pub returns-clause-lookupswitch : goal.returns-clause-lookupswitch
returns-clause-lookupswitch c = lookupswitch
