use Rattle.cjc_verified_proof.proofs.CheckedLaws.{objects_go}
use Rattle.cjc_verified_proof.proofs.checked.objects_go_on.Goals as goal

pub returns : goal.returns
returns c = objects_go
