use Rattle.cjc_types.proofs.Ascending.{insns_ascend}
use Rattle.cjc_types.proofs.Few.{insns_at_most}
use Rattle.cjc_types.proofs.laws.code_laws.Goals as goal

pub returns-clause-few : goal.returns-clause-few
returns-clause-few c = insns_at_most

pub returns-clause-ascending : goal.returns-clause-ascending
returns-clause-ascending c = insns_ascend
