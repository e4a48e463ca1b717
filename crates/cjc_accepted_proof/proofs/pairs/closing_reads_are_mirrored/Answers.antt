use Rattle.cjc_accepted_proof.proofs.PairsLaws.{closing_mirrors}
use Rattle.cjc_accepted_proof.proofs.pairs.closing_reads_are_mirrored.Goals as goal

pub returns : goal.returns
returns c = closing_mirrors
