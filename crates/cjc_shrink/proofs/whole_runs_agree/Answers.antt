use Rattle.cjc_shrink.proofs.Whole.{runs_agree}
use Rattle.cjc_shrink.proofs.whole_runs_agree.Goals as goal

pub returns : goal.returns
returns c = runs_agree
