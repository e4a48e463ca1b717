use Rattle.cjc_select_laws.proofs.Run.{same_code}
use Rattle.cjc_select_laws.proofs.what_is_selected_runs.Goals as goal

pub returns : goal.returns
returns c = same_code
