use Rattle.cjc_types.specs.Working.FlowLaws.{type_laws}
use Rattle.cjc_accepted_proof.proofs.ThisLaws.{this_below}
use Rattle.cjc_accepted_proof.proofs.beside.receivers_stay.Goals as goal

pub returns : goal.returns
returns c = λ w r b rows opened unbroken pairs keeps numbers least object at x cell row e. this_below w r b rows opened
    unbroken pairs keeps numbers least object (type_laws b) at x cell row e
