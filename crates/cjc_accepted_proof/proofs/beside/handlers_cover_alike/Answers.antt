use Rattle.cjc_accepted_proof.proofs.CatchesLaws.{handler_for}
use Rattle.cjc_accepted_proof.proofs.beside.handlers_cover_alike.Goals as goal

pub returns : goal.returns
returns c = λ p m codes is can stand caught at i x there row s within h on cover. handler_for p m codes is can stand
    caught at i x there row s within h on cover
