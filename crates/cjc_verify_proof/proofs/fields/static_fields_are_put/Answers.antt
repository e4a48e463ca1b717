use Rattle.cjc_verify_proof.proofs.FieldLaws.{put_cell}
use Rattle.cjc_verify_proof.proofs.fields.static_fields_are_put.Goals as goal

pub returns : goal.returns
returns c l t room next lc lv m k fit = put_cell l t room next lc lv m k fit
