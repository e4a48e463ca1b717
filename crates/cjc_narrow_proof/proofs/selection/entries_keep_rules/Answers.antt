use Rattle.cjc_narrow_proof.proofs.SelectionLaws.Reached.{entry_rule, no_entry_rule}
use Rattle.cjc_narrow_proof.proofs.selection.entries_keep_rules.Goals as goal

pub returns-clause-none : goal.returns-clause-none
returns-clause-none c = no_entry_rule

pub returns-clause-some : goal.returns-clause-some
returns-clause-some c = entry_rule
