use Rattle.cjc_cut_proof.proofs.LandLaws.{code_begins, jump_lands, all_jumps}
use Rattle.cjc_cut_proof.proofs.leads.jumps_lead_inside.Goals as goal

pub returns-clause-jumps : goal.returns-clause-jumps
returns-clause-jumps c = all_jumps

pub returns-clause-lands : goal.returns-clause-lands
returns-clause-lands c = jump_lands

pub returns-clause-first : goal.returns-clause-first
returns-clause-first c = code_begins
