use Rattle.cjc_methods.proofs.Laid.{codes_same}
use Rattle.cjc_methods.proofs.laws.codes_are_by_their_own_pool.Goals as goal

pub returns : goal.returns
returns c = λ list files insns t p is narrow e. codes_same list files insns t p is narrow e
