use Rattle.cjc_token_proof.proofs.CallsLaws.Dispatch as dispatch
use Rattle.cjc_token_proof.proofs.calls.dispatch_agrees.Goals as goal

pub returns : goal.returns
returns c = λ w acyclic n offset low kinds. dispatch.dispatch_agrees w (c.lookup_laws.ensures.are_supertypes w acyclic)
    (c.lookup_laws.ensures.one_supertypes w) n offset low kinds
