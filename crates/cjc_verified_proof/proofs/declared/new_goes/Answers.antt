use Rattle.cjc_verified_proof.proofs.MakeLaws.{makes_go}
use Rattle.cjc_verified_proof.proofs.declared.new_goes.Goals as goal

pub returns : goal.returns
returns c = makes_go
