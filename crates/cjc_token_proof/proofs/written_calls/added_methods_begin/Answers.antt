use Rattle.cjc_token_proof.proofs.WrittenCalls.Ids.{own_ids}
use Rattle.cjc_token_proof.proofs.WrittenCalls.Known.{classes_stand}
use Rattle.cjc_token_proof.proofs.WrittenCalls.Words.{added_begins}
use Rattle.cjc_token_proof.proofs.written_calls.added_methods_begin.Goals as goal

pub returns : goal.returns
returns c = λ list p sound ready methods takes.
    let forms = c.layouts_are_laid_out.ensures.forms in
    let offsets = c.layouts_are_laid_out.ensures.offsets in
    added_begins p takes forms offsets ready methods (own_ids list p sound) (classes_stand list p sound)
