use Rattle.cjc_writing_laws.proofs.Aids.{aids_short}
use Rattle.cjc_writing_laws.proofs.aids_are_short.Goals as goal

pub returns : goal.returns
returns c = λ list read. aids_short list read
