use Rattle.cjc_narrow_proof.proofs.SelectionLaws.KeptHandlers.{handlers_rule}
use Rattle.cjc_narrow_proof.proofs.selection.handlers_keep_rules.Goals as goal

pub returns : goal.returns
returns c = handlers_rule
