use Rattle.cjc_accepted_proof.proofs.InstructionsLaws.Members.{object_call_mirrors, static_call_mirrors}
use Rattle.cjc_accepted_proof.proofs.members.named_calls_are_mirrored.Goals as goal

pub returns-clause-static_calls : goal.returns-clause-static_calls
returns-clause-static_calls c = static_call_mirrors

pub returns-clause-on_objects : goal.returns-clause-on_objects
returns-clause-on_objects c = object_call_mirrors
