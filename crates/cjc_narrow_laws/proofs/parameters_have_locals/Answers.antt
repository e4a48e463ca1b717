use Rattle.cjc_narrow_laws.proofs.Room.{room_to_begin}
use Rattle.cjc_narrow_laws.proofs.parameters_have_locals.Goals as goal

pub returns : goal.returns
returns c = λ files code class method tree is short. room_to_begin files code class method tree is short
