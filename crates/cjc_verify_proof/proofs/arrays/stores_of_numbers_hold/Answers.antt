use Rattle.cjc_verify_proof.proofs.StoreLaws.{stores_byte, stores_short, stores_int}
use Rattle.cjc_verify_proof.proofs.arrays.stores_of_numbers_hold.Goals as goal

pub returns-clause-bytes : goal.returns-clause-bytes
returns-clause-bytes c l next local_cells locals m k = stores_byte l next local_cells locals m k

pub returns-clause-shorts : goal.returns-clause-shorts
returns-clause-shorts c l next local_cells locals m k = stores_short l next local_cells locals m k

pub returns-clause-ints : goal.returns-clause-ints
returns-clause-ints c l next local_cells locals m k = stores_int l next local_cells locals m k
