use Rattle.cjc_shrink.proofs.Puts.{putfield}
use Rattle.cjc_shrink.proofs.fields_are_written_alike.Goals as goal

pub returns : goal.returns
returns c = putfield
