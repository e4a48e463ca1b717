use Rattle.cjc_verified_proof.proofs.FittingLaws.{dispatch_fits}
use Rattle.cjc_verified_proof.proofs.dispatch.dispatch_fits.Goals as goal

pub returns : goal.returns
returns c = dispatch_fits
