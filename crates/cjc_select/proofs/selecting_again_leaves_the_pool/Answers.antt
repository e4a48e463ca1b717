use Rattle.cjc_select.proofs.Forms.{same_pools}
use Rattle.cjc_select.proofs.selecting_again_leaves_the_pool.Goals as goal

pub returns : goal.returns
returns c = same_pools
