use Rattle.cjc_layout.proofs.Sorted.{ordered_same}
use Rattle.cjc_layout.proofs.order_changes_no_search.Goals as goal

pub returns : goal.returns
returns c = ordered_same
