use Rattle.cjc_token_proof.proofs.TablesLaws.Arrays.{arrays_begin}
use Rattle.cjc_token_proof.proofs.TablesLaws.First.{memory_begin}
use Rattle.cjc_token_proof.proofs.tables.memories_begin_alike.Goals as goal

pub returns-clause-arrays : goal.returns-clause-arrays
returns-clause-arrays c = λ p codes image. arrays_begin p codes image

pub returns-clause-memory : goal.returns-clause-memory
returns-clause-memory c = λ list p codes sound typed image once. memory_begin list p sound typed codes image once
