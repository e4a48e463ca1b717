use Rattle.cjc_int_accepted.proofs.SingleLaws.{compare_stands, goto_stands, if_acmpeq_stands}
use Rattle.cjc_int_accepted.proofs.SingleLaws.{if_acmpne_stands, ifnonnull_stands, ifnull_stands}
use Rattle.cjc_int_accepted.proofs.SingleLaws.{lookup_stands, table_stands, zero_stands}
use Rattle.cjc_int_accepted.proofs.singles.jumping_stretches_stand.Goals as goal

pub returns-clause-numbers : goal.returns-clause-numbers
returns-clause-numbers c = zero_stands

pub returns-clause-pairs_of_numbers : goal.returns-clause-pairs_of_numbers
returns-clause-pairs_of_numbers c = compare_stands

pub returns-clause-same_references : goal.returns-clause-same_references
returns-clause-same_references c = if_acmpeq_stands

pub returns-clause-other_references : goal.returns-clause-other_references
returns-clause-other_references c = if_acmpne_stands

pub returns-clause-nulls : goal.returns-clause-nulls
returns-clause-nulls c = ifnull_stands

pub returns-clause-objects : goal.returns-clause-objects
returns-clause-objects c = ifnonnull_stands

pub returns-clause-gotos : goal.returns-clause-gotos
returns-clause-gotos c = goto_stands

pub returns-clause-tables : goal.returns-clause-tables
returns-clause-tables c = table_stands

pub returns-clause-matches : goal.returns-clause-matches
returns-clause-matches c = lookup_stands
