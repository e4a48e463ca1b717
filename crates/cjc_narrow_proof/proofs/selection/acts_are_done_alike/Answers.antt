use Rattle.cjc_narrow_proof.proofs.SelectionLaws.ActsDone.{acts_alike}
use Rattle.cjc_narrow_proof.proofs.selection.acts_are_done_alike.Goals as goal

pub returns : goal.returns
returns c = acts_alike
