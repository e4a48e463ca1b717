use Rattle.cjc_ncode.proofs.LoweringLaws.Fetching.{method_fetched}
use Rattle.cjc_ncode.proofs.lowering.methods_are_fetched.Goals as goal

pub returns : goal.returns
returns c = λ n p part whole stands. method_fetched n p whole part stands
