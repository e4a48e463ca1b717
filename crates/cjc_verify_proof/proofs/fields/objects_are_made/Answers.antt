use Rattle.cjc_verify_proof.proofs.FieldLaws.{new_object}
use Rattle.cjc_verify_proof.proofs.fields.objects_are_made.Goals as goal

pub returns : goal.returns
returns c l t room next lc lv m k fit = new_object l t room next lc lv m k fit
