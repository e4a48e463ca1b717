use Rattle.cjc_theorem.proofs.AlikeLaws.InterfaceCalls.Privates.{private_named}
use Rattle.cjc_theorem.proofs.alike.interface_calls.private_calls_are_named.Goals as goal

pub returns : goal.returns
returns c = λ list codes p is class id of hit found private. private_named list codes p is class id of hit
    found private
