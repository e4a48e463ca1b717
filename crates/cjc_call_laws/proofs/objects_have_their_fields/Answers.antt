use Rattle.cjc_call_laws.proofs.Fields.{object_has}
use Rattle.cjc_call_laws.proofs.objects_have_their_fields.Goals as goal

pub returns : goal.returns
returns c = object_has
