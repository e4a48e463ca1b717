use Rattle.std.proofs.Common.{refl}
use Rattle.cjc_verify_proof.proofs.FrameLaws.{leaves_frames}
use Rattle.cjc_verify_proof.proofs.frames.results_are_returned.Goals as goal

pub returns : goal.returns
returns c l program all s t words typed f outer o = leaves_frames l program all s.memory t.result words typed s refl f
    outer o
