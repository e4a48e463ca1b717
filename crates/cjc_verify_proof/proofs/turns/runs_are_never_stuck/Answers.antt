use Rattle.cjc_verify_proof.proofs.RunLaws.{never_stuck}
use Rattle.cjc_verify_proof.proofs.turns.runs_are_never_stuck.Goals as goal

pub returns : goal.returns
returns c l program is script n at e = never_stuck l program is script n at e
