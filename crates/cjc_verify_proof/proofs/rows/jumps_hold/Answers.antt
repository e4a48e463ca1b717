use Rattle.cjc_verify_proof.proofs.TestLaws.{test_chooses}
use Rattle.cjc_verify_proof.proofs.rows.jumps_hold.Goals as goal

pub returns : goal.returns
returns c = test_chooses
