use Rattle.cjc_accepted_theorem.proofs.SpeltBackLaws.{read_back}
use Rattle.cjc_accepted_theorem.proofs.read_back.written_components_are_accepted.Goals as goal

pub returns : goal.returns
returns c = λ list files judged p is verified.
    read_back list files p is.laid.is_package is.runs.image (c.components_are_whole.ensures p) verified
