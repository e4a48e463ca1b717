use Rattle.cjc_shrink.proofs.Reached.{entry_rule}
use Rattle.cjc_shrink.proofs.entries_keep_rules.Goals as goal

pub returns : goal.returns
returns c = entry_rule
