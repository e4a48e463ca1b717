use Rattle.cjc_int_selection.proofs.Said.{int_code_said}
use Rattle.cjc_int_selection.proofs.code.int_code_can_be_said.Goals as goal

pub returns : goal.returns
returns c = int_code_said
