use Rattle.std.proofs.Common.{refl}
use Rattle.cjc_verify_proof.proofs.ScriptLaws.{prepared_itself}
use Rattle.cjc_verify_proof.proofs.ImportLaws.{faults_go}
use Rattle.cjc_verify_proof.proofs.calls.faults_are_caught.Goals as goal

pub returns : goal.returns
returns c l program all has s t among f st outer o =
    faults_go l program all has s.memory s (prepared_itself l s.memory.heap) refl t among f st outer o
