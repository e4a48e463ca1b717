use Rattle.cjc_lower.proofs.ByCode.{code_runs_agree}
use Rattle.cjc_lower.proofs.placed_methods_run_as_by_label.Goals as goal

pub returns : goal.returns
returns c = code_runs_agree
