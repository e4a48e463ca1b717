use Rattle.cjc_methods.proofs.Ownership.{ordered_listed, ordered_own}
use Rattle.cjc_methods.proofs.order.methods_are_own.Goals as goal

pub returns-clause-own : goal.returns-clause-own
returns-clause-own c = ordered_own

pub returns-clause-listed : goal.returns-clause-listed
returns-clause-listed c = ordered_listed
