use Rattle.cjc_token_proof.proofs.WrittenCalls.Words.{written_words}
use Rattle.cjc_token_proof.proofs.written_calls.methods_take_their_words.Goals as goal

pub returns : goal.returns
returns g c = λ list files codes rows p is. written_words list files codes rows p is
