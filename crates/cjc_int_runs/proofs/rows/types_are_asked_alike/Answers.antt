use Rattle.cjc_int_runs.proofs.TypesAsked.{checkcast, instanceof}
use Rattle.cjc_int_runs.proofs.rows.types_are_asked_alike.Goals as goal

pub returns-clause-checkcast : goal.returns-clause-checkcast
returns-clause-checkcast c = λ by l f pairs r m b ls type there within. checkcast by l f pairs r m b ls type there
    within

pub returns-clause-instanceof : goal.returns-clause-instanceof
returns-clause-instanceof c = instanceof
