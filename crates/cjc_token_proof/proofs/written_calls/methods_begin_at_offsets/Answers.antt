use Rattle.cjc_token_proof.proofs.WrittenCalls.Ids.{own_ids}
use Rattle.cjc_token_proof.proofs.WrittenCalls.Known.{classes_stand}
use Rattle.cjc_token_proof.proofs.WrittenCalls.Offsets.{methods_begin}
use Rattle.cjc_token_proof.proofs.written_calls.methods_begin_at_offsets.Goals as goal

pub returns : goal.returns
returns c = λ list p sound ready methods. methods_begin c.layouts_are_laid_out.ensures.forms
    c.layouts_are_laid_out.ensures.offsets p ready methods (own_ids list p sound) (classes_stand list p sound)
