use Rattle.cjc_table_rules.proofs.Calm.{never_tosses}
use Rattle.cjc_table_rules.proofs.only_athrow_throws.Goals as goal

pub returns : goal.returns
returns c = never_tosses
