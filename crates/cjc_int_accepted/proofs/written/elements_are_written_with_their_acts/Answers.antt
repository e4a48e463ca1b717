use Rattle.cjc_int_accepted.proofs.WrittenLaws.{item_acts, item_store_acts}
use Rattle.cjc_int_accepted.proofs.written.elements_are_written_with_their_acts.Goals as goal

pub returns-clause-loads : goal.returns-clause-loads
returns-clause-loads c = item_acts

pub returns-clause-stores : goal.returns-clause-stores
returns-clause-stores c = item_store_acts
