use Rattle.cjc_narrow_proof.proofs.SelectionLaws.Callees.{call_written}
use Rattle.cjc_narrow_proof.proofs.selection.calls_are_written.Goals as goal

pub returns : goal.returns
returns c = call_written
