use Rattle.cjc_narrow_proof.proofs.SelectionLaws.Casts.{checkcast, instanceof}
use Rattle.cjc_narrow_proof.proofs.selection.types_are_asked_alike.Goals as goal

pub returns-clause-checkcast : goal.returns-clause-checkcast
returns-clause-checkcast c = λ by l r m type there within after narrower. checkcast by l r m type there within after
    narrower

pub returns-clause-instanceof : goal.returns-clause-instanceof
returns-clause-instanceof c = λ by l r m type there within. instanceof by l r m type there within
