use Rattle.cjc_verify_proof.proofs.FlowLaws.{sound}
use Rattle.cjc_verify_proof.proofs.frames.frames_pass.Goals as goal

pub returns : goal.returns
returns c l exceptions t method heap f s =
    let h = sound l exceptions t method s.place s.step s.is_step s.cells s.locals s.reached in (h.passes, h.named)
