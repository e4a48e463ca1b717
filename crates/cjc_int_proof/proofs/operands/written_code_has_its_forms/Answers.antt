use Rattle.cjc_int_proof.proofs.Forms.{all_have_forms}
use Rattle.cjc_int_proof.proofs.operands.written_code_has_its_forms.Goals as goal

pub returns : goal.returns
returns c = all_have_forms
