use Rattle.cjc_narrow_proof.proofs.SelectionLaws.Reached.{static_rule, import_rule, object_rule}
use Rattle.cjc_narrow_proof.proofs.selection.calls_keep_rules.Goals as goal

pub returns-clause-static_call : goal.returns-clause-static_call
returns-clause-static_call c = static_rule

pub returns-clause-static_import : goal.returns-clause-static_import
returns-clause-static_import c = import_rule

pub returns-clause-object_call : goal.returns-clause-object_call
returns-clause-object_call c = object_rule
