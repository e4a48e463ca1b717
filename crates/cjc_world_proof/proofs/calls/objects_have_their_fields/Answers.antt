use Rattle.cjc_world_proof.proofs.CallsLaws.Fields.{object_has}
use Rattle.cjc_world_proof.proofs.calls.objects_have_their_fields.Goals as goal

pub returns : goal.returns
returns c = object_has
