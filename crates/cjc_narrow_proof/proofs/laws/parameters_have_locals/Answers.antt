use Rattle.cjc_narrow_proof.proofs.LawsLaws.Room.{room_to_begin}
use Rattle.cjc_narrow_proof.proofs.laws.parameters_have_locals.Goals as goal

pub returns : goal.returns
returns c = λ files code class method tree is short. room_to_begin files code class method tree is short
