use Rattle.cjc_int_runs.proofs.PlacedCode.{handlers_found}
use Rattle.cjc_int_runs.proofs.methods.handlers_of_int_code_are_found_alike.Goals as goal

pub returns : goal.returns
returns c = λ by l f r reached m code same at k i there is kind tells q up down. handlers_found f r reached by l m code
    same at k i there is kind tells q up down
