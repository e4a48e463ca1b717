use Rattle.cjc_shape_proof.proofs.WritingLaws.Unbound.{unbound_are_own}
use Rattle.cjc_shape_proof.proofs.writing.unbound_entries_are_own.Goals as goal

pub returns : goal.returns
returns c = λ list files judged p is plain static. unbound_are_own list files judged p is plain static
