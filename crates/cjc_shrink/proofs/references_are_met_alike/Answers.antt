use Rattle.cjc_shrink.proofs.References.{athrow, arraylength}
use Rattle.cjc_shrink.proofs.references_are_met_alike.Goals as goal

pub returns-clause-athrow : goal.returns-clause-athrow
returns-clause-athrow c = athrow

pub returns-clause-arraylength : goal.returns-clause-arraylength
returns-clause-arraylength c = arraylength
