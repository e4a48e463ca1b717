use Rattle.cjc_verified_proof.proofs.CheckedLaws.{fields_go}
use Rattle.cjc_verified_proof.proofs.checked.fields_go_on.Goals as goal

pub returns : goal.returns
returns c = fields_go
