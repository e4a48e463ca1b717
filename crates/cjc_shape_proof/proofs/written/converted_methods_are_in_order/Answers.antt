use Rattle.cjc_shape_proof.proofs.WrittenLaws.Files.{own_methods}
use Rattle.cjc_shape_proof.proofs.written.converted_methods_are_in_order.Goals as goal

pub returns : goal.returns
returns c = own_methods
