use Rattle.cjc_verified_proof.proofs.PlainRows.{plain_read}
use Rattle.cjc_verified_proof.proofs.plain.plain_rows_are_read.Goals as goal

pub returns : goal.returns
returns c = plain_read
