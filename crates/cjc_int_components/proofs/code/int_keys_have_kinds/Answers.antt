use Rattle.cjc_int_components.proofs.Made.{int_code_has_kinds}
use Rattle.cjc_int_components.proofs.code.int_keys_have_kinds.Goals as goal

pub returns : goal.returns
returns c = int_code_has_kinds
