use Rattle.cjc_accepted_theorem.proofs.HeadersLaws.{class_begun}
use Rattle.cjc_accepted_theorem.proofs.headers.converted_methods_begin.Goals as goal
use Rattle.cjc_verified_proof.proofs.TokenProofWrittenCallsIds.{own_ids}
use Rattle.cjc_verified_proof.proofs.TokenProofWrittenCallsKnown.{classes_stand}
use Rattle.cjc_verified_proof.proofs.TokenProofWrittenCallsOffsets.{methods_begin}
use Rattle.cjc_verified_proof.proofs.TokenProofWrittenCallsWords.{added_begins, counts_from}

pub returns : goal.returns
returns c = λ list files judged p is.
    let runs = is.runs in
    let forms = c.layouts_are_laid_out.ensures.forms in
    let offsets = c.layouts_are_laid_out.ensures.offsets in
    let ids = own_ids list.name p runs.sound in
    let stand = classes_stand list.name p runs.sound in
    class_begun list judged.codes p is.of_files (methods_begin forms offsets p runs.ready runs.methods ids stand)
    (counts_from p is.words forms offsets runs.ready runs.methods ids stand)
    (added_begins p is.words forms offsets runs.ready runs.methods ids stand)
