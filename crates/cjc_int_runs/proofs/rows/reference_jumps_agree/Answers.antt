use Rattle.cjc_int_runs.proofs.Jumps.{ifnull, ifnonnull, if_acmpeq, if_acmpne}
use Rattle.cjc_int_runs.proofs.rows.reference_jumps_agree.Goals as goal

pub returns-clause-ifnull : goal.returns-clause-ifnull
returns-clause-ifnull c = ifnull

pub returns-clause-ifnonnull : goal.returns-clause-ifnonnull
returns-clause-ifnonnull c = ifnonnull

pub returns-clause-if_acmpeq : goal.returns-clause-if_acmpeq
returns-clause-if_acmpeq c = if_acmpeq

pub returns-clause-if_acmpne : goal.returns-clause-if_acmpne
returns-clause-if_acmpne c = if_acmpne
