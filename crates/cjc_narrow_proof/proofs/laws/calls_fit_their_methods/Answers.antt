use Rattle.cjc_narrow_proof.proofs.LawsLaws.Calls.{called_fits, found_hit}
use Rattle.cjc_narrow_proof.proofs.laws.calls_fit_their_methods.Goals as goal

pub returns-clause-found : goal.returns-clause-found
returns-clause-found c = λ list files codes settings is class name desc f e. found_hit list files codes settings is
    class name desc f e

pub returns-clause-calls : goal.returns-clause-calls
returns-clause-calls c = λ list files codes settings is class op id at f h found e. called_fits list files codes
    settings is class op id at f h found e
