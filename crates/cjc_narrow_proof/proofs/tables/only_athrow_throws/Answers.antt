use Rattle.cjc_narrow_proof.proofs.TablesLaws.Calm.{never_tosses}
use Rattle.cjc_narrow_proof.proofs.tables.only_athrow_throws.Goals as goal

pub returns : goal.returns
returns c = never_tosses
