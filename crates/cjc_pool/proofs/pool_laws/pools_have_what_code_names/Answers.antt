use Rattle.cjc_pool.proofs.PoolLaws.Keys.{names_there}
use Rattle.cjc_pool.proofs.pool_laws.pools_have_what_code_names.Goals as goal

pub returns : goal.returns
returns c = λ files tokens methods pool is calls_have insn there. names_there files tokens methods pool is calls_have
    insn there
