use Rattle.cjc_convert.proofs.OneAnswer.{not_refused, one_converted, one_refused}
use Rattle.cjc_convert.proofs.laws.one_answer.Goals as goal

pub returns-clause-refused : goal.returns-clause-refused
returns-clause-refused c = one_refused

pub returns-clause-converted : goal.returns-clause-converted
returns-clause-converted c = one_converted

pub returns-clause-not_both : goal.returns-clause-not_both
returns-clause-not_both c = not_refused
