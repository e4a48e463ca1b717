use Rattle.cjc_lower.proofs.Beginning.{begins}
use Rattle.cjc_lower.proofs.methods_begin.Goals as goal

pub returns : goal.returns
returns c = λ n p part is_abstract reads stands listed. begins n p part is_abstract reads stands listed
