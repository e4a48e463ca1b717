use Rattle.std.proofs.Common.{refl}
use Rattle.cjc_token_proof.proofs.tables.components_are_complete.Goals as goal

pub returns : goal.returns
returns c = λ p. refl
