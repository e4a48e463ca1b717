use Rattle.cjc_shape_proof.proofs.FindsLaws.Whole.{exceptions_are}
use Rattle.cjc_shape_proof.proofs.finds.own_exceptions_are_imported.Goals as goal

pub returns : goal.returns
returns c = λ list files codes settings tables whole fault. exceptions_are list files codes settings tables whole fault
