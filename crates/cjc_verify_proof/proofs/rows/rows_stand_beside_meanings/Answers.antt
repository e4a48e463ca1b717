use Rattle.cjc_verify_proof.proofs.TableLaws.{beside}
use Rattle.cjc_verify_proof.proofs.rows.rows_stand_beside_meanings.Goals as goal

pub returns : goal.returns
returns c = beside
