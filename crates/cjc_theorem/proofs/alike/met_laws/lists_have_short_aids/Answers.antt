use Rattle.cjc_shape_proof.proofs.WritingLaws.Aids.{aids_short}
use Rattle.cjc_theorem.proofs.alike.met_laws.lists_have_short_aids.Goals as goal

pub returns : goal.returns
returns c = λ list read. aids_short list read
