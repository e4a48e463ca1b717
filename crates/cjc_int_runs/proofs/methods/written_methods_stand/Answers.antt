use Rattle.cjc_int_runs.specs.IntFrames.{StandsByMode}
use Rattle.cjc_int_runs.proofs.TypedCode.{method_stands, arrives_first}
use Rattle.cjc_int_runs.proofs.methods.written_methods_stand.Goals as goal

pub returns-clause-stands : goal.returns-clause-stands
returns-clause-stands c = λ b m reached is by l tb bodies results tells typed. method_stands b m reached is by l
    (StandsByMode l tb bodies) results tb.narrowed tb.may_throw tells typed

pub returns-clause-first : goal.returns-clause-first
returns-clause-first c = arrives_first
