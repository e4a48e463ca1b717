use Rattle.std.proofs.Common.{refl}
use Rattle.cjc_check_proof.proofs.code.components_are_whole.Goals as goal

pub returns : goal.returns
returns c p = refl
