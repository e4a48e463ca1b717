use Rattle.cjc_int_accepted.proofs.NamedStandLaws.{cast_stands, length_stands, test_stands, throw_stands}
use Rattle.cjc_int_accepted.proofs.named_stand.tests_stand.Goals as goal

pub returns-clause-casts : goal.returns-clause-casts
returns-clause-casts c = cast_stands

pub returns-clause-asks : goal.returns-clause-asks
returns-clause-asks c = test_stands

pub returns-clause-lengths : goal.returns-clause-lengths
returns-clause-lengths c = length_stands

pub returns-clause-throws : goal.returns-clause-throws
returns-clause-throws c = throw_stands
