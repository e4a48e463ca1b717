use Rattle.cjc_world_proof.proofs.SelectionLaws.Exceptions.{exception_is}
use Rattle.cjc_world_proof.proofs.selection.exceptions_are_imported.Goals as goal

pub returns : goal.returns
returns c = exception_is
