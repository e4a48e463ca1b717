use Rattle.cjc_int_alike.proofs.ShortCalls.{call_goes_out}
use Rattle.cjc_int_alike.proofs.packages.calls_of_other_methods_go_out.Goals as goal

pub returns : goal.returns
returns c = call_goes_out
