use Rattle.cjc_narrow_proof.proofs.SelectionLaws.References.{athrow, arraylength}
use Rattle.cjc_narrow_proof.proofs.selection.references_are_met_alike.Goals as goal

pub returns-clause-athrow : goal.returns-clause-athrow
returns-clause-athrow c = athrow

pub returns-clause-arraylength : goal.returns-clause-arraylength
returns-clause-arraylength c = arraylength
