use Rattle.cjc_token_proof.proofs.WrittenSends.Operations.{code_names}
use Rattle.cjc_token_proof.proofs.written_sends.code_names_as_written.Goals as goal

pub returns : goal.returns
returns g c = λ list codes rows p is. code_names p list codes rows is
