use Rattle.cjc_table_rules.proofs.Points.{plain_rule}
use Rattle.cjc_table_rules.proofs.plain_instructions_keep_rules.Goals as goal

pub returns : goal.returns
returns c = plain_rule
