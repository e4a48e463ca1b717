use Rattle.cjc_int_proof.proofs.Counts.{behind, order, within}
use Rattle.cjc_int_proof.proofs.lengths.labels_are_in_order.Goals as goal

pub returns-clause-behind : goal.returns-clause-behind
returns-clause-behind c = behind

pub returns-clause-order : goal.returns-clause-order
returns-clause-order c = order

pub returns-clause-within : goal.returns-clause-within
returns-clause-within c = within
