use Rattle.cjc_pool.proofs.PoolLaws.Entries.{all_held, same_entries, same_index}
use Rattle.cjc_pool.proofs.pool_laws.pool_entries_are_those_of_components.Goals as goal

pub returns-clause-entries : goal.returns-clause-entries
returns-clause-entries c = same_entries

pub returns-clause-indices : goal.returns-clause-indices
returns-clause-indices c = same_index

pub returns-clause-held : goal.returns-clause-held
returns-clause-held c = all_held
