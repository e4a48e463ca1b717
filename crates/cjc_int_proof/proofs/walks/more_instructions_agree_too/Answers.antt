use Rattle.cjc_int_proof.proofs.Walking.{agree_more}
use Rattle.cjc_int_proof.proofs.walks.more_instructions_agree_too.Goals as goal

pub returns : goal.returns
returns c = agree_more
