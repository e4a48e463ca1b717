use Rattle.cjc_verify_proof.proofs.ScriptLaws.{heap_prepared}
use Rattle.cjc_verify_proof.proofs.calls.acts_prepare_heaps.Goals as goal

pub returns : goal.returns
returns c = heap_prepared
