use Rattle.std.proofs.Common.{refl}
use Rattle.cjc_code_consistency.proofs.components_are_whole.Goals as goal

pub returns : goal.returns
returns c p = refl
