use Rattle.cjc_verified_proof.proofs.KeptLaws.{goes}
use Rattle.cjc_verified_proof.proofs.coded.checked_packages_are_never_stuck.Goals as goal

pub returns : goal.returns
returns c = goes
