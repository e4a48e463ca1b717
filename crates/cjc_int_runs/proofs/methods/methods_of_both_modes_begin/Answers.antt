use Rattle.cjc_int_runs.specs.IntFrames.{StandsByMode}
use Rattle.cjc_int_runs.proofs.Entering.{int_enters, short_enters, enters_on}
use Rattle.cjc_int_runs.proofs.methods.methods_of_both_modes_begin.Goals as goal

pub returns-clause-int : goal.returns-clause-int
returns-clause-int c = int_enters

pub returns-clause-short : goal.returns-clause-short
returns-clause-short c = short_enters

pub returns-clause-receiver : goal.returns-clause-receiver
returns-clause-receiver c = λ by l tb bodies results m sorts kinds of kind receives passes enters. enters_on by l
    (StandsByMode l tb bodies) results tb.narrowed tb.may_throw m sorts kinds of kind receives passes enters
