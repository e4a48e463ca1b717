use Rattle.cjc_types.proofs.Greater.{breach_up}
use Rattle.cjc_types.proofs.Heights.{not_cut}
use Rattle.cjc_types.proofs.Least.{one_least}
use Rattle.cjc_types.proofs.Typed.{are_typed, are_frames}
use Rattle.cjc_types.proofs.laws.table_laws.Goals as goal

pub returns-clause-one : goal.returns-clause-one
returns-clause-one c = λ b xs ys left right. one_least b xs ys left right

pub returns-clause-first : goal.returns-clause-first
returns-clause-first c = λ w b table h some. h.stands.least.closed.entry some

pub returns-clause-typed : goal.returns-clause-typed
returns-clause-typed c = λ w b table h. are_typed w b table h

pub returns-clause-broken : goal.returns-clause-broken
returns-clause-broken c = λ w b xs place rule least h ys closed. breach_up w b xs ys least closed place rule h

pub returns-clause-uncut : goal.returns-clause-uncut
returns-clause-uncut c = λ b xs least few place x s op row is. not_cut b xs least few place x s op row is

pub returns-clause-framed : goal.returns-clause-framed
returns-clause-framed c = λ w b table h. are_frames w b table h
