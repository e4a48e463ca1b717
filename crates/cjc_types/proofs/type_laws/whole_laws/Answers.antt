use Rattle.cjc_types.proofs.TypeLaws.Named.{names_exist}
use Rattle.cjc_types.proofs.TypeLaws.Uncut.{union_whole, elements_whole}
use Rattle.cjc_types.proofs.type_laws.whole_laws.Goals as goal

pub returns-clause-joined : goal.returns-clause-joined
returns-clause-joined c =
    λ files code class method tree bytes ok short spelt is xs least j k x y types others row other h g.
    let n = names_exist files code class method tree bytes ok short spelt is in
    union_whole n.0 _ xs j k x y types others n.1 n.2 least row other h g

pub returns-clause-elements : goal.returns-clause-elements
returns-clause-elements c = λ files code class method tree bytes ok short spelt is xs least at x types row h.
    let n = names_exist files code class method tree bytes ok short spelt is in
    elements_whole n.0 _ xs at x types n.1 n.2 least row h
