use Rattle.cjc_int_runs.proofs.Guard.{guard_leads}
use Rattle.cjc_int_runs.proofs.rows.guards_find_items.Goals as goal

pub returns : goal.returns
returns c = guard_leads
