use Rattle.cjc_accepted_proof.proofs.KindsLaws.{object_mirrors, static_mirrors}
use Rattle.cjc_accepted_proof.proofs.kinds.calls_are_mirrored.Goals as goal

pub returns-clause-static_calls : goal.returns-clause-static_calls
returns-clause-static_calls c = static_mirrors

pub returns-clause-on_objects : goal.returns-clause-on_objects
returns-clause-on_objects c = object_mirrors
