use Rattle.cjc_narrow_proof.proofs.SelectedLaws.Run.{same_code}
use Rattle.cjc_narrow_proof.proofs.selected.what_is_selected_runs.Goals as goal

pub returns : goal.returns
returns c = same_code
