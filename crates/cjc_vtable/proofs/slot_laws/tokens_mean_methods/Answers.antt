use Rattle.cjc_vtable.proofs.SlotLaws.Meant.{open_token, package_token}
use Rattle.cjc_vtable.proofs.slot_laws.tokens_mean_methods.Goals as goal

pub returns-clause-public : goal.returns-clause-public
returns-clause-public c = λ w rules numbered. open_token w (c.lookup_laws.ensures.are_supertypes w rules.acyclic)
    (c.lookup_laws.ensures.one_supertypes w) rules numbered

pub returns-clause-package_visible : goal.returns-clause-package_visible
returns-clause-package_visible c = λ w rules. package_token w (c.lookup_laws.ensures.are_supertypes w rules.acyclic)
    (c.lookup_laws.ensures.one_supertypes w) rules
