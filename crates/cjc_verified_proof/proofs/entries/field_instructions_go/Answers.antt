use Rattle.cjc_verified_proof.proofs.UseLaws.{uses_go}
use Rattle.cjc_verified_proof.proofs.entries.field_instructions_go.Goals as goal

pub returns : goal.returns
returns c = uses_go
