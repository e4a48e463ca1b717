use Rattle.cjc_group.proofs.Agreeing.{packages_agree}
use Rattle.cjc_group.proofs.laws.packages_agree.Goals as goal

pub returns : goal.returns
returns c = packages_agree
