use Rattle.cjc_shrink.proofs.Types.{types_stay}
use Rattle.cjc_shrink.proofs.types_stay.Goals as goal

pub returns : goal.returns
returns c = types_stay
