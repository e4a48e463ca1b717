use Rattle.cjc_int_components.proofs.Ending.{int_code_ends}
use Rattle.cjc_int_components.proofs.code.int_code_ends.Goals as goal

pub returns : goal.returns
returns c = int_code_ends
