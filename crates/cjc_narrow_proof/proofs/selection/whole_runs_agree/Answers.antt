use Rattle.cjc_narrow_proof.proofs.SelectionLaws.Whole.{runs_agree}
use Rattle.cjc_narrow_proof.proofs.selection.whole_runs_agree.Goals as goal

pub returns : goal.returns
returns c = runs_agree
