use Rattle.std.proofs.Common.{rules}
use Rattle.std.proofs.lemmas.Int.{wraps}
use Rattle.cjc_frame.proofs.number.sum_of.Goals as goal

pub returns : goal.returns
returns c = search (rules, wraps)
