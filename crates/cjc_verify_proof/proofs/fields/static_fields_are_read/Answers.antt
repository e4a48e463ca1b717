use Rattle.cjc_verify_proof.proofs.FieldLaws.{get_cell}
use Rattle.cjc_verify_proof.proofs.fields.static_fields_are_read.Goals as goal

pub returns : goal.returns
returns c l t room next lc lv m k fit = get_cell l t room next lc lv m k fit
