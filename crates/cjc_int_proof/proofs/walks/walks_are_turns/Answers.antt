use Rattle.cjc_ncode.specs.ByLabel.{by_label}
use Rattle.cjc_int_proof.proofs.Walking.{walks_on, walks_out, walks_split}
use Rattle.cjc_int_proof.proofs.walks.walks_are_turns.Goals as goal

pub returns-clause-on : goal.returns-clause-on
returns-clause-on c = λ l m. walks_on (by_label l) m

pub returns-clause-out : goal.returns-clause-out
returns-clause-out c = λ l m. walks_out (by_label l) m

pub returns-clause-split : goal.returns-clause-split
returns-clause-split c = λ l m. walks_split (by_label l) m
