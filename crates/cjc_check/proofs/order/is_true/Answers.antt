use Rattle.cjc_check.proofs.FirstPlaces.{true_where_none}
use Rattle.cjc_check.proofs.order.is_true.Goals as goal

pub returns : goal.returns
returns c = λ spots e. true_where_none spots c.args.spot c.is_none.result c.is_none.ensures e
