use Rattle.cjc_written_laws.proofs.Files.{own_methods}
use Rattle.cjc_written_laws.proofs.converted_methods_are_in_order.Goals as goal

pub returns : goal.returns
returns c = own_methods
