use Rattle.cjc_theorem.proofs.AlikeLaws.NamedLaws.FixedCalls.{constructor_named, static_named}
use Rattle.cjc_theorem.proofs.alike.named_laws.fixed_calls_are_named.Goals as goal

pub returns-clause-statics : goal.returns-clause-statics
returns-clause-statics c = λ list codes p is class id of. static_named list codes p is class id of

pub returns-clause-constructors : goal.returns-clause-constructors
returns-clause-constructors c = λ list codes p is class id of constructor. constructor_named list codes p is class id
    of constructor
