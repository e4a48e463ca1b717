use Rattle.cjc_int_narrow.proofs.Stands.{int_code_whole}
use Rattle.cjc_int_narrow.proofs.laws.int_code_is_whole.Goals as goal

pub returns : goal.returns
returns c = int_code_whole
