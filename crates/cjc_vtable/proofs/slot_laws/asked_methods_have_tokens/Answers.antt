use Rattle.cjc_vtable.proofs.SlotLaws.Asked.{asked_token}
use Rattle.cjc_vtable.proofs.slot_laws.asked_methods_have_tokens.Goals as goal

pub returns : goal.returns
returns c = λ w rules interfaces access. asked_token w (c.lookup_laws.ensures.are_supertypes w rules.acyclic)
    (c.lookup_laws.ensures.one_supertypes w) rules access interfaces
