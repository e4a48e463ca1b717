use Rattle.cjc_int_accepted.proofs.NamedLaws.{array_acts, cast_acts, length_acts, numbers_acts, object_acts}
use Rattle.cjc_int_accepted.proofs.NamedLaws.{test_acts, throw_acts}
use Rattle.cjc_int_accepted.proofs.named.objects_are_written_with_their_acts.Goals as goal

pub returns-clause-objects : goal.returns-clause-objects
returns-clause-objects c = object_acts

pub returns-clause-references : goal.returns-clause-references
returns-clause-references c = array_acts

pub returns-clause-numbers : goal.returns-clause-numbers
returns-clause-numbers c = numbers_acts

pub returns-clause-lengths : goal.returns-clause-lengths
returns-clause-lengths c = length_acts

pub returns-clause-throws : goal.returns-clause-throws
returns-clause-throws c = throw_acts

pub returns-clause-casts : goal.returns-clause-casts
returns-clause-casts c = cast_acts

pub returns-clause-tests : goal.returns-clause-tests
returns-clause-tests c = test_acts
