use Rattle.cjc_world_proof.proofs.InitialisersLaws.Values.{fields-told}
use Rattle.cjc_world_proof.proofs.initialisers.each_field_is_told.Goals as goal

pub returns : goal.returns
returns c = fields-told
