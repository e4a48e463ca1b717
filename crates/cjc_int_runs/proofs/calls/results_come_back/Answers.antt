use Rattle.cjc_int_runs.proofs.HandOver.{result_taken}
use Rattle.cjc_int_runs.proofs.calls.results_come_back.Goals as goal

pub returns : goal.returns
returns c = λ l code here ks under below words memory max_stack sort kinds value result_words h room stand rest.
    result_taken l code
    here ks under below words memory max_stack h room stand rest
