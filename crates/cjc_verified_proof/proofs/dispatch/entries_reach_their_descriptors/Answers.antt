use Rattle.cjc_verified_proof.proofs.TokenLaws.{entry_reached}
use Rattle.cjc_verified_proof.proofs.dispatch.entries_reach_their_descriptors.Goals as goal

pub returns : goal.returns
returns c = entry_reached
