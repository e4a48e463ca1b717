use Rattle.cjc_narrow_proof.proofs.SelectionLaws.Imports.{static_import, object_import}
use Rattle.cjc_narrow_proof.proofs.selection.imports_are_answered_alike.Goals as goal

pub returns-clause-static_call : goal.returns-clause-static_call
returns-clause-static_call c = static_import

pub returns-clause-object_call : goal.returns-clause-object_call
returns-clause-object_call c = object_import
