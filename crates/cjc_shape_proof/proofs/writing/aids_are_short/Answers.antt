use Rattle.cjc_shape_proof.proofs.WritingLaws.Aids.{aids_short}
use Rattle.cjc_shape_proof.proofs.writing.aids_are_short.Goals as goal

pub returns : goal.returns
returns c = λ list read. aids_short list read
