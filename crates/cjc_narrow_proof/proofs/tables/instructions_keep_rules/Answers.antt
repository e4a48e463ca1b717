use Rattle.cjc_narrow_proof.proofs.TablesLaws.Points.{plain_rule, resolved_rule, return_rule, throw_rule, array_rule}
use Rattle.cjc_narrow_proof.proofs.TablesLaws.Points.{call_rule}
use Rattle.cjc_narrow_proof.proofs.tables.instructions_keep_rules.Goals as goal

pub returns-clause-plain : goal.returns-clause-plain
returns-clause-plain c = plain_rule

pub returns-clause-resolved : goal.returns-clause-resolved
returns-clause-resolved c = resolved_rule

pub returns-clause-returns : goal.returns-clause-returns
returns-clause-returns c = return_rule

pub returns-clause-throws : goal.returns-clause-throws
returns-clause-throws c = throw_rule

pub returns-clause-elements : goal.returns-clause-elements
returns-clause-elements c = array_rule

pub returns-clause-calls : goal.returns-clause-calls
returns-clause-calls c = call_rule
