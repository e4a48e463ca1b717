use Rattle.cjc_keys.proofs.Indices.{same_pool}
use Rattle.cjc_keys.proofs.laws.forms_leave_the_pool.Goals as goal

pub returns : goal.returns
returns c = same_pool
