use Rattle.cjc_verify_proof.proofs.CallLaws.{result_has}
use Rattle.cjc_verify_proof.proofs.calls.results_are_words.Goals as goal

pub returns : goal.returns
returns c = result_has
