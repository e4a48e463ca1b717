use Rattle.cjc_met_laws.proofs.Aids.{aids_short}
use Rattle.cjc_met_laws.proofs.lists_have_short_aids.Goals as goal

pub returns : goal.returns
returns c = λ list read. aids_short list read
