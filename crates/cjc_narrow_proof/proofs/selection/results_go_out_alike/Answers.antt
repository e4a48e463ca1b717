use Rattle.cjc_narrow_proof.proofs.SelectionLaws.Results.{leaves_to, leaves_entry}
use Rattle.cjc_narrow_proof.proofs.selection.results_go_out_alike.Goals as goal

pub returns-clause-to_caller : goal.returns-clause-to_caller
returns-clause-to_caller c = leaves_to

pub returns-clause-of_entry : goal.returns-clause-of_entry
returns-clause-of_entry c = leaves_entry
