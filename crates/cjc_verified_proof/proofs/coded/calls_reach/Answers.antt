use Rattle.cjc_verified_proof.proofs.KeptLaws.{reach}
use Rattle.cjc_verified_proof.proofs.coded.calls_reach.Goals as goal

pub returns : goal.returns
returns c = reach
