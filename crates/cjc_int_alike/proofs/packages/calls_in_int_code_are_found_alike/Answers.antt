use Rattle.cjc_int_alike.proofs.Reached.{static_called, receiver_called}
use Rattle.cjc_int_alike.proofs.packages.calls_in_int_code_are_found_alike.Goals as goal

pub returns-clause-on_class : goal.returns-clause-on_class
returns-clause-on_class c = static_called

pub returns-clause-on_receiver : goal.returns-clause-on_receiver
returns-clause-on_receiver c = receiver_called
