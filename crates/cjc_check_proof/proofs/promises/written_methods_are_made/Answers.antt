use Rattle.cjc_check_proof.proofs.PromisesLaws.Written.{made_abstract, made_selected, made_without}
use Rattle.cjc_check_proof.proofs.promises.written_methods_are_made.Goals as goal

pub returns-clause-added : goal.returns-clause-added
returns-clause-added c = made_without

pub returns-clause-without_code : goal.returns-clause-without_code
returns-clause-without_code c = made_abstract

pub returns-clause-selected : goal.returns-clause-selected
returns-clause-selected c = made_selected
