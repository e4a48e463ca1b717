use Rattle.cjc_cut_proof.proofs.LandLaws.{covered_lands, handler_leads}
use Rattle.cjc_cut_proof.proofs.leads.handlers_lead_inside.Goals as goal

pub returns-clause-handlers : goal.returns-clause-handlers
returns-clause-handlers c = handler_leads

pub returns-clause-covered : goal.returns-clause-covered
returns-clause-covered c = covered_lands
