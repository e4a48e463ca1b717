use Rattle.cjc_cut_proof.proofs.CardLaws.{follows_next, instruction_fetched}
use Rattle.cjc_cut_proof.proofs.cuts.instructions_are_fetched.Goals as goal

pub returns-clause-fetched : goal.returns-clause-fetched
returns-clause-fetched c = instruction_fetched

pub returns-clause-next : goal.returns-clause-next
returns-clause-next c = follows_next
