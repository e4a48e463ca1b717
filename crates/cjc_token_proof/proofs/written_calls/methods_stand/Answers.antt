use Rattle.cjc_token_proof.proofs.WrittenCalls.Held.{methods_held}
use Rattle.cjc_token_proof.proofs.written_calls.methods_stand.Goals as goal

pub returns : goal.returns
returns c = λ p ready. methods_held c.layouts_are_laid_out.ensures.forms c.layouts_are_laid_out.ensures.offsets p ready
