use Rattle.std.proofs.Common.{refl}
use Rattle.cjc_tables_by_token.proofs.components_are_complete.Goals as goal

pub returns : goal.returns
returns c = λ p. refl
