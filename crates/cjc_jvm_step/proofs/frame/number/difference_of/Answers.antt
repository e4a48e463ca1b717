use Rattle.std.proofs.Common.{rules}
use Rattle.std.proofs.lemmas.Int.{wraps}
use Rattle.cjc_jvm_step.proofs.frame.number.difference_of.Goals as goal

pub returns : goal.returns
returns c = search (rules, wraps)
