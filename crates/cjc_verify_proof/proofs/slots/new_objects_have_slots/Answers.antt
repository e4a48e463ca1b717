use Rattle.cjc_verify_proof.proofs.FreshLaws.{fresh_slots}
use Rattle.cjc_verify_proof.proofs.slots.new_objects_have_slots.Goals as goal

pub returns : goal.returns
returns c = fresh_slots
