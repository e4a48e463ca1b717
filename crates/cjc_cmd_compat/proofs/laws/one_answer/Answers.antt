use Rattle.cjc_cmd_compat.proofs.OneAnswer.{one_refusal, never_both}
use Rattle.cjc_cmd_compat.proofs.laws.one_answer.Goals as goal

pub returns-clause-one : goal.returns-clause-one
returns-clause-one c = one_refusal

pub returns-clause-not_both : goal.returns-clause-not_both
returns-clause-not_both c = never_both
