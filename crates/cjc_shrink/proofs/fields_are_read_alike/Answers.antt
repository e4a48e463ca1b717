use Rattle.cjc_shrink.proofs.Gets.{getfield}
use Rattle.cjc_shrink.proofs.fields_are_read_alike.Goals as goal

pub returns : goal.returns
returns c = getfield
