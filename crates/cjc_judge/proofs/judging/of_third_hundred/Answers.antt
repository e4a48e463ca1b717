use Rattle.cjc_bytes.specs.Told.{break_of}
use Rattle.cjc_judge.proofs.Thirds.{third_of_none, third_found, third_not}
use Rattle.cjc_judge.proofs.judging.of_third_hundred.Goals as goal

pub returns-then-found-eq3 : goal.returns-then-found-eq3
returns-then-found-eq3 c = λ bs first low. third_found bs (break_of c.in-Some.found) (rw c.in-Some.is at first)
    c.if-found-eq3.true

pub returns-else-found-eq3 : goal.returns-else-found-eq3
returns-else-found-eq3 c = λ bs first low. third_not bs (break_of c.in-Some.found) (rw c.in-Some.is at first) low
    c.if-found-eq3.false

pub returns-in-None : goal.returns-in-None
returns-in-None c = λ bs first low. third_of_none bs (rw c.in-None.is at first)
