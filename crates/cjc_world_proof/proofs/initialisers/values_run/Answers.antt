use Rattle.cjc_world_proof.proofs.InitialisersLaws.Values.{values-held}
use Rattle.cjc_world_proof.proofs.initialisers.values_run.Goals as goal

pub returns : goal.returns
returns c = λ files image codes arrays fields types room once apart is. (let r = values-held files image apart codes
    arrays fields types room once is in (r.0, r.1, r.2, r.3))
