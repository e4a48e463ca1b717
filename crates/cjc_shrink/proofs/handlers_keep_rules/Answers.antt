use Rattle.cjc_shrink.proofs.KeptHandlers.{handlers_rule}
use Rattle.cjc_shrink.proofs.handlers_keep_rules.Goals as goal

pub returns : goal.returns
returns c = handlers_rule
