use Rattle.cjc_int_alike.proofs.Callees.{called_by_mode, scripted_by_mode}
use Rattle.cjc_int_alike.proofs.packages.calls_reach_methods_of_both_modes.Goals as goal

pub returns-clause-calls : goal.returns-clause-calls
returns-clause-calls c = called_by_mode

pub returns-clause-scripts : goal.returns-clause-scripts
returns-clause-scripts c = scripted_by_mode
