use Rattle.cjc_verified_proof.proofs.FlagLaws.{static_in_interfaces}
use Rattle.cjc_verified_proof.proofs.flags.fields_of_interfaces_are_static.Goals as goal

pub returns : goal.returns
returns c = static_in_interfaces
