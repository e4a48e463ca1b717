use Rattle.cjc_vtable.proofs.Worlds.{virtual_calls_agree, interface_calls_agree, imported_calls_agree}
use Rattle.cjc_vtable.proofs.laws.dispatch_laws.Goals as goal

pub returns-clause-virtual_calls : goal.returns-clause-virtual_calls
returns-clause-virtual_calls c = λ w rules. virtual_calls_agree w (c.lookup_laws.ensures.are_supertypes w rules.acyclic)
    (c.lookup_laws.ensures.one_supertypes w) rules

pub returns-clause-interface_calls : goal.returns-clause-interface_calls
returns-clause-interface_calls c = λ w rules interfaces. interface_calls_agree w (c.lookup_laws.ensures.are_supertypes w
    rules.acyclic) (c.lookup_laws.ensures.one_supertypes w) rules interfaces

pub returns-clause-imported_calls : goal.returns-clause-imported_calls
returns-clause-imported_calls c = λ w rules far. imported_calls_agree w (c.lookup_laws.ensures.are_supertypes w
    rules.acyclic) (c.lookup_laws.ensures.one_supertypes w) rules far
