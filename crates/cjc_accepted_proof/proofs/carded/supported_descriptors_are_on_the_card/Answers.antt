use Rattle.cjc_accepted_proof.proofs.CardedLaws.{on_card}
use Rattle.cjc_accepted_proof.proofs.carded.supported_descriptors_are_on_the_card.Goals as goal

pub returns : goal.returns
returns c = on_card
