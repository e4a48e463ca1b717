use Rattle.cjc_cut_proof.proofs.CardLaws.{method_starts, starts_there}
use Rattle.cjc_cut_proof.proofs.cuts.methods_begin_there.Goals as goal

pub returns-clause-each : goal.returns-clause-each
returns-clause-each c = method_starts

pub returns-clause-only : goal.returns-clause-only
returns-clause-only c = starts_there
