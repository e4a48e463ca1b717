use Rattle.cjc_int_alike.proofs.ShortReturns.{return_at}
use Rattle.cjc_int_alike.proofs.packages.returns_of_other_methods_give.Goals as goal

pub returns : goal.returns
returns c = return_at
