use Rattle.cjc_accepted_proof.proofs.ArraysLaws.{array_spots_none}
use Rattle.cjc_accepted_proof.proofs.arrays.arrays_are_of_their_fields.Goals as goal

pub returns : goal.returns
returns c = array_spots_none
