use Rattle.cjc_check_proof.proofs.CodeLaws.Members.{start_there}
use Rattle.cjc_check_proof.proofs.code.methods_start_where_they_stand.Goals as goal

pub returns : goal.returns
returns c p apart order k f e = start_there p apart order k f e
