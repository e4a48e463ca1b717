use Rattle.cjc_accepted_proof.proofs.ArrayTypesLaws.{arrays_agree}
use Rattle.cjc_accepted_proof.proofs.elements.types_of_arrays_agree.Goals as goal

pub returns : goal.returns
returns c = arrays_agree
