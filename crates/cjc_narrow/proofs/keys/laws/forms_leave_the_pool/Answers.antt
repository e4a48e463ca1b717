use Rattle.cjc_narrow.proofs.KeysLaws.Indices.{same_pool}
use Rattle.cjc_narrow.proofs.keys.laws.forms_leave_the_pool.Goals as goal

pub returns : goal.returns
returns c = same_pool
