use Rattle.std.proofs.Common.{arith}
use Rattle.std.proofs.lemmas.Int.{ints, to_z-of_z}
use Rattle.cjc_flow.proofs.Exact.{exact_is}
use Rattle.cjc_flow.proofs.values.exact.Goals as goal

pub returns : goal.returns
returns c = grind (arith, ints, to_z-of_z, exact_is)
