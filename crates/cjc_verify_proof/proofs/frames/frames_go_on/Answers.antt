use Rattle.cjc_verify_proof.proofs.FrameLaws.{goes}
use Rattle.cjc_verify_proof.proofs.frames.frames_go_on.Goals as goal

pub returns : goal.returns
returns c l exceptions t method before heap f s i = goes l exceptions t method before heap f s i
