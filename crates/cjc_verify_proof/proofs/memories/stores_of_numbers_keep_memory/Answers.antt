use Rattle.cjc_verify_proof.proofs.ArrayLaws.{byte_stored, short_stored, int_stored}
use Rattle.cjc_verify_proof.proofs.memories.stores_of_numbers_keep_memory.Goals as goal

pub returns-clause-bytes : goal.returns-clause-bytes
returns-clause-bytes c = byte_stored

pub returns-clause-shorts : goal.returns-clause-shorts
returns-clause-shorts c = short_stored

pub returns-clause-ints : goal.returns-clause-ints
returns-clause-ints c = int_stored
