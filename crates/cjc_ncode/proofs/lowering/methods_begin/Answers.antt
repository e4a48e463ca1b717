use Rattle.cjc_ncode.proofs.LoweringLaws.Beginning.{begins}
use Rattle.cjc_ncode.proofs.lowering.methods_begin.Goals as goal

pub returns : goal.returns
returns c = λ n p part is_abstract reads stands listed. begins n p part is_abstract reads stands listed
