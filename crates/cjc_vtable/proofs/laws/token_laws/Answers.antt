use Rattle.cjc_vtable.proofs.Worlds.{tokens_are_once}
use Rattle.cjc_vtable.proofs.laws.token_laws.Goals as goal

pub returns : goal.returns
returns c = λ w rules. tokens_are_once w (c.lookup_laws.ensures.are_supertypes w rules.acyclic)
    (c.lookup_laws.ensures.one_supertypes w) rules
