use Rattle.cjc_int_accepted.proofs.SelectionLaws.{are_labelled, code_is, placed_at}
use Rattle.cjc_int_accepted.proofs.selection.int_code_is_selected.Goals as goal

pub returns-clause-steps : goal.returns-clause-steps
returns-clause-steps c card_type m r code b types ranges step = code_is card_type m r b types ranges step code

pub returns-clause-labels : goal.returns-clause-labels
returns-clause-labels c = are_labelled

pub returns-clause-places : goal.returns-clause-places
returns-clause-places c = placed_at
