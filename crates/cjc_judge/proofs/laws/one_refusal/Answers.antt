use Rattle.cjc_judge.proofs.OneRefusal.{one_refusal, one_first}
use Rattle.cjc_judge.proofs.laws.one_refusal.Goals as goal

pub returns-clause-at_one_rank : goal.returns-clause-at_one_rank
returns-clause-at_one_rank c = one_refusal

pub returns-clause-first : goal.returns-clause-first
returns-clause-first c = one_first
