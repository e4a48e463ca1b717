use Rattle.cjc_narrow.proofs.SelectLaws.Forms.{same_pools}
use Rattle.cjc_narrow.proofs.select.selecting_again_leaves_the_pool.Goals as goal

pub returns : goal.returns
returns c = same_pools
