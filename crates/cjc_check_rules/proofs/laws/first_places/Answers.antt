use Rattle.cjc_check_rules.proofs.Firsts.{first_empty, first_append}
use Rattle.cjc_check_rules.proofs.laws.first_places.Goals as goal

pub returns-clause-none : goal.returns-clause-none
returns-clause-none c = λ spots e. first_empty spots e

pub returns-clause-both : goal.returns-clause-both
returns-clause-both c = λ left right. first_append left right
