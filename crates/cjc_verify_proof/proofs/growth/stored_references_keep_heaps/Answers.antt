use Rattle.cjc_verify_proof.proofs.GrowthLaws.{reference_put}
use Rattle.cjc_verify_proof.proofs.growth.stored_references_keep_heaps.Goals as goal

pub returns : goal.returns
returns c l m after = reference_put l m after
