use Rattle.cjc_verified_proof.proofs.DeclaredLaws.{all_declared}
use Rattle.cjc_verified_proof.proofs.declared.fields_have_slots.Goals as goal

pub returns : goal.returns
returns c = all_declared
