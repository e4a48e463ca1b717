use Rattle.cjc_shrink.proofs.ActsDone.{acts_alike}
use Rattle.cjc_shrink.proofs.acts_are_done_alike.Goals as goal

pub returns : goal.returns
returns c = acts_alike
