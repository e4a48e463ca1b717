use Rattle.cjc_accepted_proof.proofs.EntryLaws.{arguments_below, entry_below}
use Rattle.cjc_accepted_proof.proofs.beside.entries_lie_below.Goals as goal

pub returns-clause-frames : goal.returns-clause-frames
returns-clause-frames c = entry_below

pub returns-clause-arguments : goal.returns-clause-arguments
returns-clause-arguments c = arguments_below
