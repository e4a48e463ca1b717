use Rattle.cjc_int_runs.specs.IntFrames.{StandsByMode}
use Rattle.cjc_int_alike.proofs.Points.{method_typed, classes_told}
use Rattle.cjc_int_alike.proofs.methods.int_methods_are_typed.Goals as goal

pub returns-clause-typed : goal.returns-clause-typed
returns-clause-typed c = λ by l tb bodies results w r f code m whole types named may gives supported.
    method_typed by l (StandsByMode l tb bodies) results tb.narrowed tb.may_throw w r f code m whole types named may
    gives supported

pub returns-clause-tells : goal.returns-clause-tells
returns-clause-tells c = λ by l tb bodies results w r f code m whole.
    classes_told by l (StandsByMode l tb bodies) results tb.narrowed tb.may_throw w r f code m whole
