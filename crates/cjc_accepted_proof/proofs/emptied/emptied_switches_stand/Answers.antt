use Rattle.cjc_accepted_proof.proofs.InstructionsLaws.Emptied.{emptied_stand}
use Rattle.cjc_accepted_proof.proofs.emptied.emptied_switches_stand.Goals as goal

pub returns : goal.returns
returns c = emptied_stand
