use Rattle.cjc_compat.proofs.Keeping.{references_kept}
use Rattle.cjc_compat.proofs.laws.compatible.Goals as goal

pub returns : goal.returns
returns c = references_kept
