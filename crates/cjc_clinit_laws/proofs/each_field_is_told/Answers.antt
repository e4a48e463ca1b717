use Rattle.cjc_clinit_laws.proofs.Values.{fields-told}
use Rattle.cjc_clinit_laws.proofs.each_field_is_told.Goals as goal

pub returns : goal.returns
returns c = fields-told
