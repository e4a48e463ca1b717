use Rattle.cjc_verify_proof.proofs.TypeLaws.{of_through}
use Rattle.cjc_verify_proof.proofs.growth.types_are_transitive.Goals as goal

pub returns : goal.returns
returns c = of_through
