use Rattle.cjc_check_proof.proofs.CodeLaws.Cut.{codes_are, is_whole}
use Rattle.cjc_check_proof.proofs.code.methods_are_cut.Goals as goal

pub returns-clause-whole : goal.returns-clause-whole
returns-clause-whole c = is_whole

pub returns-clause-codes : goal.returns-clause-codes
returns-clause-codes c = codes_are
