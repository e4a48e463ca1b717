use Rattle.cjc_int_accepted.proofs.WrittenLaws.{goto_acts, if_acmpeq_acts, if_acmpne_acts, ifnonnull_acts}
use Rattle.cjc_int_accepted.proofs.WrittenLaws.{ifnull_acts, lookup_acts, number_jump_acts, numbers_jump_acts}
use Rattle.cjc_int_accepted.proofs.WrittenLaws.{table_acts}
use Rattle.cjc_int_accepted.proofs.written.jumps_are_written_with_their_acts.Goals as goal

pub returns-clause-numbers : goal.returns-clause-numbers
returns-clause-numbers c = number_jump_acts

pub returns-clause-pairs_of_numbers : goal.returns-clause-pairs_of_numbers
returns-clause-pairs_of_numbers c = numbers_jump_acts

pub returns-clause-same_references : goal.returns-clause-same_references
returns-clause-same_references c = if_acmpeq_acts

pub returns-clause-other_references : goal.returns-clause-other_references
returns-clause-other_references c = if_acmpne_acts

pub returns-clause-nulls : goal.returns-clause-nulls
returns-clause-nulls c = ifnull_acts

pub returns-clause-objects : goal.returns-clause-objects
returns-clause-objects c = ifnonnull_acts

pub returns-clause-gotos : goal.returns-clause-gotos
returns-clause-gotos c = goto_acts

pub returns-clause-tables : goal.returns-clause-tables
returns-clause-tables c = table_acts

pub returns-clause-matches : goal.returns-clause-matches
returns-clause-matches c = lookup_acts
