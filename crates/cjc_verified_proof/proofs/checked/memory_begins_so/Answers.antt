use Rattle.cjc_verified_proof.proofs.CheckedLaws.{memory_first}
use Rattle.cjc_verified_proof.proofs.checked.memory_begins_so.Goals as goal

pub returns : goal.returns
returns c = memory_first
