use Rattle.cjc_int_accepted.proofs.WrittenLaws.{nothing_acts, number_acts_returned, reference_acts_returned}
use Rattle.cjc_int_accepted.proofs.written.returns_are_written_with_their_acts.Goals as goal

pub returns-clause-numbers : goal.returns-clause-numbers
returns-clause-numbers c = number_acts_returned

pub returns-clause-references : goal.returns-clause-references
returns-clause-references c = reference_acts_returned

pub returns-clause-nothing : goal.returns-clause-nothing
returns-clause-nothing c = nothing_acts
