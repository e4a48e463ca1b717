use Rattle.cjc_int_accepted.proofs.NamedStandLaws.{array_stands, numbers_stand, object_stands}
use Rattle.cjc_int_accepted.proofs.named_stand.makings_stand.Goals as goal

pub returns-clause-objects : goal.returns-clause-objects
returns-clause-objects c = object_stands

pub returns-clause-arrays : goal.returns-clause-arrays
returns-clause-arrays c = array_stands

pub returns-clause-numbers : goal.returns-clause-numbers
returns-clause-numbers c = numbers_stand
