use Rattle.cjc_theorem.proofs.AlikeLaws.InterfaceCalls.Interfaces.{interface_named}
use Rattle.cjc_theorem.proofs.alike.interface_calls.interface_calls_are_named.Goals as goal
use Rattle.cjc_token_proof.specs.WrittenCalls.Calls.{interface_words}

pub returns-clause-named : goal.returns-clause-named
returns-clause-named c = λ list codes p is class id of words. interface_named list codes p is class id
    of words

pub returns-clause-words : goal.returns-clause-words
returns-clause-words c = λ list codes p is class id of words. interface_words
