use Rattle.cjc_narrow_proof.proofs.SelectionLaws.Handlers.{found_alike, caught}
use Rattle.cjc_narrow_proof.proofs.selection.handlers_are_found_alike.Goals as goal

pub returns-clause-search : goal.returns-clause-search
returns-clause-search c = λ by l r reached holder kind here at catches is tells. found_alike by l r reached holder kind
    here at is tells catches

pub returns-clause-frame : goal.returns-clause-frame
returns-clause-frame c = caught
