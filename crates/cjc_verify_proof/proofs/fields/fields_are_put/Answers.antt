use Rattle.cjc_verify_proof.proofs.FieldLaws.{put_field, put_field_this}
use Rattle.cjc_verify_proof.proofs.fields.fields_are_put.Goals as goal

pub returns-clause-object : goal.returns-clause-object
returns-clause-object c l t room next lc lv m k fit = put_field l t room next lc lv m k fit

pub returns-clause-this : goal.returns-clause-this
returns-clause-this c l t room next lc lv m k fit = put_field_this l t room next lc lv m k fit
