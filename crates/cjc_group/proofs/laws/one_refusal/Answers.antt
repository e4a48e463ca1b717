use Rattle.cjc_group.proofs.OneRank.{breaks_once, missing_once}
use Rattle.cjc_group.proofs.laws.one_refusal.Goals as goal

pub returns-clause-together : goal.returns-clause-together
returns-clause-together c = breaks_once

pub returns-clause-missing : goal.returns-clause-missing
returns-clause-missing c = missing_once
