use Rattle.cjc_code_consistency.proofs.Members.{start_there}
use Rattle.cjc_code_consistency.proofs.methods_start_where_they_stand.Goals as goal

pub returns : goal.returns
returns c p apart order k f e = start_there p apart order k f e
